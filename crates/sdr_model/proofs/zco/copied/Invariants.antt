use Rattle.std.proofs.Common.{◌≡◌, take}
use Rattle.sdr_model.proofs.zco.copied.Given as goal

abbrev pub invariant-loop-capsule : goal.invariant-loop-capsule
invariant-loop-capsule l = l.copy ≡ take l.capsule-index l.capsules
