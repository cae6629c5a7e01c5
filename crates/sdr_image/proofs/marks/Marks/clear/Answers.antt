use Rattle.std.proofs.Common.{◌≡◌, ◌∙◌, ap, arith, length, sym, vec_len, ℕ}
use Rattle.std.specs.Prelude.{map, replicate}
use Rattle.std.proofs.lemmas.List.{length-map}
use Rattle.sdr_image.specs.Marks.{stand_of}
use Rattle.sdr_image.specs.declared.marks.Stand.TheVariants.{Clean}
use Rattle.sdr_image.proofs.MarksLemmas.{clean_bytes}
use Rattle.sdr_image.proofs.marks.Marks.clear.Goals as goal

pub returns : goal.returns
returns c =
    let b = c.self.inside.bytes in
    let len : vec_len b ≡ length b.items = omega arith in
    ap (map stand_of) (c.fill.ensures.items (λ y is. is))
    ∙ clean_bytes (vec_len b)
    ∙ ap (λ (n : ℕ). replicate n Clean) (len ∙ sym (length-map b.items stand_of) ∙ ap length c.self.view_is)
