use Rattle.std.proofs.Common.{◌≡◌, take}
use Rattle.sdr_model.specs.Zco.{capsules_length}
use Rattle.mem_parts.proofs.capsules.capsules_length.Given as goal

abbrev pub invariant-loop-capsule : goal.invariant-loop-capsule
invariant-loop-capsule l = l.bytes ≡ capsules_length (take l.capsule-index l.capsules)
