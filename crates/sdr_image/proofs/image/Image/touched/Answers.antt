use Rattle.std.proofs.Common.{ap, arith, length}
use Rattle.sdr_image.specs.Opened.{Opened}
use Rattle.sdr_image.proofs.MarksLemmas.{length-touched}
use Rattle.sdr_image.proofs.image.Image.touched.Goals as goal

pub overflow_add-result : goal.overflow_add-result
overflow_add-result g c =
    let o = c.self.inside in
    let k = c.self.invariant.lines_kept in
    omega (
      arith,
      c.len.ensures.len,
      k.counted,
      k.long,
      length-touched 0 o.lines.marks,
      c.self.invariant.limits.most_heap,
    )

pub returns : goal.returns
returns g c = omega (
  arith,
  c.len.ensures.len,
  c.self.invariant.lines_kept.counted,
  ap (λ (v : Opened g.row.D.Denot). length v.touched) c.self.view_is,
)
