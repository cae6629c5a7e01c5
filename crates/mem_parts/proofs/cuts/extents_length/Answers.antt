use Rattle.std.proofs.Common.{arith}
use Rattle.std.proofs.lemmas.List.Sums.{sum_by_more_le}
use Rattle.sdr_model.specs.declared.zco.Extent.{Extent}
use Rattle.mem_parts.proofs.cuts.extents_length.Goals as goal

pub overflow_add-bytes : goal.overflow_add-bytes
overflow_add-bytes c =
    let none : Extent = record { block = 0; source = 0; offset = 0; length = 0 } in
    omega (
      arith,
      c.requires.few,
      sum_by_more_le (λ (e : Extent). e.length) c.args.extents.now c.loop-extent.extent-index none c.loop-extent-test.true,
    )
