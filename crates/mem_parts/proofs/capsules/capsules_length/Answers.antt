use Rattle.std.proofs.Common.{arith, length, ap, ◌∙◌}
use Rattle.std.proofs.lemmas.List.Sums.{sum_by_more_le}
use Rattle.sdr_model.specs.declared.zco.Capsule.{Capsule}
use Rattle.mem_parts.proofs.capsules.capsules_length.Goals as goal

pub overflow_add-bytes : goal.overflow_add-bytes
overflow_add-bytes c =
    omega (
      arith,
      c.requires.few,
      ap length c.as_slice.ensures ∙ ap (λ (c : Capsule). length c.text) c.capsule-item.is,
      sum_by_more_le (λ (c : Capsule). length c.text) c.args.capsules.now c.loop-capsule.capsule-index c.capsule-item.result
          c.loop-capsule-test.true,
    )
