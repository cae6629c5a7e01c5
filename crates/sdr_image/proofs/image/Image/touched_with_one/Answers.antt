use Rattle.std.proofs.Common.{◌≡◌, ◌∙◌, ◌∷◌, [], not, true, false, ap, sym, arith, length, length-append}
use Rattle.sdr_base.specs.Cells.{is_among, with_lines}
use Rattle.sdr_image.specs.Marks.{touched_in}
use Rattle.sdr_image.specs.Opened.{Opened}
use Rattle.sdr_image.proofs.MarksLemmas.{is_among-line, length-touched}
use Rattle.sdr_image.proofs.TouchedLemmas.{with_lines-touched, with_lines-untouched}
use Rattle.sdr_image.proofs.image.Image.touched_with_one.Goals as goal

pub overflow_add-result : goal.overflow_add-result
overflow_add-result g c =
    let marks = c.self.inside.lines.marks in
    omega (
      arith,
      c.touched-touched.ensures,
      length-touched 0 marks,
      c.self.invariant.lines_kept.long,
      c.self.invariant.limits.most_heap,
      ap (λ (v : Opened g.row.D.Denot). length v.touched) c.self.view_is,
    )

pub returns-then-is_clean : goal.returns-then-is_clean
returns-then-is_clean g c =
    let touched = touched_in c.self.inside.lines.marks in
    let line = c.args.line in
    let new : is_among touched line ≡ false = is_among-line c.self.inside.lines.marks line ∙ ap not (sym c.is_clean.ensures ∙ c.if-is_clean.true) in
    omega (
      arith,
      c.touched-touched.ensures,
      ap length (with_lines-untouched touched line new),
      length-append touched (line ∷ []),
      ap (λ (v : Opened g.row.D.Denot). length v.touched) c.self.view_is,
      ap (λ (v : Opened g.row.D.Denot). length (with_lines v.touched (line ∷ []))) c.self.view_is,
    )

pub returns : goal.returns
returns g c =
    let touched = touched_in c.self.inside.lines.marks in
    let line = c.args.line in
    let old : is_among touched line ≡ true = is_among-line c.self.inside.lines.marks line ∙ ap not (sym c.is_clean.ensures ∙ c.if-is_clean.false) in
    omega (
      arith,
      c.touched-touched.ensures,
      ap length (with_lines-touched touched line old),
      ap (λ (v : Opened g.row.D.Denot). length v.touched) c.self.view_is,
      ap (λ (v : Opened g.row.D.Denot). length (with_lines v.touched (line ∷ []))) c.self.view_is,
    )
