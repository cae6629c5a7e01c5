use Rattle.std.proofs.Common.{◌≡◌, ◌+◌, length}
use Rattle.sdr_model.specs.Zco.{capsules_length}
use Rattle.sdr_text_world.proofs.thing.capsules_length.Given as goal

abbrev pub invariant-loop-capsule : goal.invariant-loop-capsule
invariant-loop-capsule l = record { sum : l.bytes + capsules_length l.rest ≡ capsules_length l.fn.capsules }

abbrev pub decreases-loop-capsule : goal.decreases-loop-capsule
decreases-loop-capsule l = length l.rest
