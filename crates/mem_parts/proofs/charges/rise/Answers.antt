use Rattle.std.proofs.Common.{arith, length, ap, ◌∙◌}
use Rattle.std.proofs.lemmas.List.Sums.{sum_by_more_le}
use Rattle.sdr_base.specs.declared.kind.Space.TheVariants as spaces
use Rattle.sdr_model.specs.BondSteps.{bond_rise}
use Rattle.sdr_model.specs.Charges.{capsule_bytes, capsule_charge}
use Rattle.sdr_model.specs.declared.zco.Capsule.{Capsule}
use Rattle.mem_parts.proofs.BoundsLemmas.{capsule_bytes-le, rise-most}
use Rattle.mem_parts.proofs.charges.rise.Goals as goal

pub capsule_bytes-requires : goal.capsule_bytes-requires
capsule_bytes-requires c = record {
  small = omega (
    arith,
    c.requires.small,
    capsule_bytes-le (length c.as_slice.result.now),
    ap length c.as_slice.ensures ∙ ap (λ (c : Capsule). length c.text) c.capsule-item.is,
    sum_by_more_le (capsule_charge spaces.Heap) c.args.capsules.now c.loop-capsule.capsule-index c.capsule-item.result
        c.loop-capsule-test.true,
  );
}

pub overflow_add-bytes-in-loop-capsule : goal.overflow_add-bytes-in-loop-capsule
overflow_add-bytes-in-loop-capsule c =
    let text = ap length c.as_slice.ensures ∙ ap (λ (c : Capsule). length c.text) c.capsule-item.is in
    omega (
      arith,
      c.requires.small,
      text,
      rise-most c.args.capsules.now,
      ap capsule_bytes text,
      c.capsule_bytes.ensures,
      sum_by_more_le (bond_rise spaces.Heap) c.args.capsules.now c.loop-capsule.capsule-index c.capsule-item.result
          c.loop-capsule-test.true,
    )
