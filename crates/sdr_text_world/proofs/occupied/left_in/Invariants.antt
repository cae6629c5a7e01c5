use Rattle.std.proofs.Common.{◌≡◌, ◌+◌, length}
use Rattle.sdr_model.specs.Charges.{left_in}
use Rattle.sdr_text_world.proofs.occupied.left_in.Given as goal

abbrev pub invariant-loop-ticket : goal.invariant-loop-ticket
invariant-loop-ticket l = record { sum : l.bytes + left_in l.space l.rest ≡ left_in l.space l.fn.tickets }

abbrev pub decreases-loop-ticket : goal.decreases-loop-ticket
decreases-loop-ticket l = length l.rest
