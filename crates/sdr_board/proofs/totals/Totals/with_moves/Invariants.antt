-- The moves so far are in the totals.
use Rattle.std.proofs.Common.{◌≡◌, count_by, take}
use Rattle.sdr_board.specs.Totals.{is_giving, is_taking, with_moves}
use Rattle.sdr_board.proofs.totals.Totals.with_moves.Given as goal

abbrev pub invariant-loop-step : goal.invariant-loop-step
invariant-loop-step l =
    l.totals ≡ with_moves l.fn.self (count_by is_taking (take l.step-index l.moves)) (count_by is_giving (take l.step-index l.moves))
