use Rattle.std.proofs.Common.{◌≡◌, map, drop}
use Rattle.sdr_model.specs.Things.{block_among, block_for_capsule}
use Rattle.sdr_model.proofs.zco.capsule_among.Given as goal

abbrev pub invariant-loop-capsule : goal.invariant-loop-capsule
invariant-loop-capsule l =
    block_among l.addr (map block_for_capsule l.capsules) ≡ block_among l.addr (map block_for_capsule (drop l.capsule-index l.capsules))
