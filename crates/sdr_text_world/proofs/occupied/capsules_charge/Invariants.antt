use Rattle.std.proofs.Common.{◌≡◌, ◌+◌, length}
use Rattle.std.specs.Prelude.{sum_by}
use Rattle.sdr_model.specs.Charges.{capsule_charge}
use Rattle.sdr_text_world.proofs.occupied.capsules_charge.Given as goal

abbrev pub invariant-loop-capsule : goal.invariant-loop-capsule
invariant-loop-capsule l = record { sum : l.bytes + sum_by (capsule_charge l.space) l.rest ≡ sum_by (capsule_charge l.space) l.fn.capsules }

abbrev pub decreases-loop-capsule : goal.decreases-loop-capsule
decreases-loop-capsule l = length l.rest
