-- The words so far are written.
use Rattle.std.proofs.Common.{◌≡◌, take}
use Rattle.sdr_board.specs.Views.{writing_view}
use Rattle.sdr_board.proofs.board.Board.write.Given as goal

abbrev pub invariant-loop-i : goal.invariant-loop-i
invariant-loop-i l =
    (l.place.table_id ≡ l.initial.place.table_id)
    × (l.place.me ≡ (writing_view l.initial.place.me.0.seen l.initial.place.me.0.begun (take l.i l.words), l.initial.place.me.1))
