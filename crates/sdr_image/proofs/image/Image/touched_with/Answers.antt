use Rattle.std.proofs.Common.{◌-◌, ap, arith, length}
use Rattle.std.specs.List.{range_with_len}
use Rattle.std.proofs.lemmas.List.FromFn.{length-range_with_len}
use Rattle.sdr_base.specs.Cells.{with_lines}
use Rattle.sdr_image.specs.Marks.{touched_in}
use Rattle.sdr_image.specs.Opened.{Opened}
use Rattle.sdr_image.proofs.ImageLemmas.{touched_count}
use Rattle.sdr_image.proofs.MarksLemmas.{length-touched}
use Rattle.sdr_image.proofs.TouchedLemmas.{with_lines-most}
use Rattle.sdr_image.proofs.image.Image.touched_with.Goals as goal

pub overflow_add-result : goal.overflow_add-result
overflow_add-result g c =
    let own = range_with_len c.args.first (c.args.end - c.args.first) in
    let marks = c.self.inside.lines.marks in
    omega (
      arith,
      c.touched.ensures,
      c.untouched.ensures,
      touched_count marks own,
      with_lines-most (touched_in marks) own,
      length-range_with_len c.args.first (c.args.end - c.args.first),
      length-touched 0 marks,
      c.self.invariant.lines_kept.long,
      c.self.invariant.limits.most_heap,
      c.requires.below,
      ap (λ (v : Opened g.row.D.Denot). v.frame.heap_lines) c.self.view_is,
      ap (λ (v : Opened g.row.D.Denot). length v.touched) c.self.view_is,
    )

pub returns : goal.returns
returns g c =
    let own = range_with_len c.args.first (c.args.end - c.args.first) in
    omega (
      arith,
      c.touched.ensures,
      c.untouched.ensures,
      touched_count c.self.inside.lines.marks own,
      ap (λ (v : Opened g.row.D.Denot). length v.touched) c.self.view_is,
      ap (λ (v : Opened g.row.D.Denot). length (with_lines v.touched own)) c.self.view_is,
    )
