use Rattle.std.proofs.Common.{◌≡◌, take}
use Rattle.std.specs.List.{sum_by}
use Rattle.sdr_base.specs.declared.kind.Space.TheVariants as spaces
use Rattle.sdr_model.specs.Charges.{capsule_charge}
use Rattle.mem_parts.specs.Capped.{capped}
use Rattle.mem_parts.proofs.charges.capsules_charge.Given as goal

abbrev pub invariant-loop-capsule : goal.invariant-loop-capsule
invariant-loop-capsule l = l.bytes ≡ capped (sum_by (capsule_charge spaces.Heap) (take l.capsule-index l.capsules))
