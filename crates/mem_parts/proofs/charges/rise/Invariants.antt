use Rattle.std.proofs.Common.{◌≡◌, take}
use Rattle.std.specs.List.{sum_by}
use Rattle.sdr_base.specs.declared.kind.Space.TheVariants as spaces
use Rattle.sdr_model.specs.BondSteps.{bond_rise}
use Rattle.mem_parts.proofs.charges.rise.Given as goal

abbrev pub invariant-loop-capsule : goal.invariant-loop-capsule
invariant-loop-capsule l = l.bytes ≡ sum_by (bond_rise spaces.Heap) (take l.capsule-index l.capsules)
