-- Each look so far met the writer.
use Rattle.std.proofs.Common.{◌≡◌, ◌+◌, ◌<◌, true}
use mathlib.Core.List.{IsPrefix}
use Rattle.sdr_board.proofs.board.Board.read.Given as goal

abbrev pub invariant-loop : goal.invariant-loop
invariant-loop l =
    (l.pass.board ≡ l.initial.pass.board)
    × (l.pass.entries ≡ l.initial.pass.entries)
    × (l.pass.looks ≡ l.initial.pass.looks + l.counter)
    × IsPrefix l.initial.pass.stood l.pass.stood
    × (0 < l.counter → l.pass.met ≡ true)
    × (0 < l.counter → IsPrefix l.initial.pass.entries l.pass.stood)
