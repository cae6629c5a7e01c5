-- The words so far are read.
use Rattle.std.proofs.Common.{◌≡◌, ◌≤◌, length, take}
use Rattle.sdr_board.specs.Totals.{totals, words_of}
use Rattle.sdr_board.specs.Views.{with_front}
use Rattle.sdr_board.proofs.board.Board.peek.Given as goal

abbrev pub invariant-loop-i : goal.invariant-loop-i
invariant-loop-i l =
    (l.place.table_id ≡ l.initial.place.table_id)
    × (l.place.me ≡ (with_front l.initial.place.me.0 l.place.me.0.front, l.initial.place.me.1))
    × (l.initial.place.me.0.front ≤ l.place.me.0.front)
    × (l.place.me.0.front ≤ length l.initial.place.me.0.stood → take l.i l.words ≡ take l.i (words_of (totals l.initial.place.me.0.stood)))
    × (length l.words ≡ 9)
