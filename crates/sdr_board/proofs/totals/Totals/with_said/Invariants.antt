-- The moves so far are in the totals.
use Rattle.std.proofs.Common.{◌≡◌, take}
use Rattle.sdr_board.specs.Totals.{is_giving, is_taking, moves_said, with_moves}
use Rattle.sdr_board.proofs.totals.Totals.with_said.Given as goal

abbrev pub invariant-loop-said : goal.invariant-loop-said
invariant-loop-said l =
    l.totals ≡ with_moves l.fn.self (moves_said is_taking (take l.said-index l.fn.said)) (moves_said is_giving (take l.said-index l.fn.said))
