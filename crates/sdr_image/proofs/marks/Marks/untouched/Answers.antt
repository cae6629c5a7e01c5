use Rattle.std.proofs.Common.{◌∙◌, ◌==◌, ap, ◌-◌, arith, List, ℕ, take, drop, length}
use Rattle.std.specs.Prelude.{filter}
use Rattle.std.specs.List.{range_with_len}
use Rattle.std.proofs.lemmas.List.{length-map}
use Rattle.sdr_image.specs.Marks.{is_clean, stand_at, stand_of}
use Rattle.sdr_image.specs.declared.marks.Stand.{Stand}
use Rattle.sdr_image.proofs.MarksLemmas.{clean_lines}
use Rattle.sdr_image.proofs.marks.Marks.untouched.Goals as goal

pub returns : goal.returns
returns c =
    let n = c.args.end - c.args.first in
    c.count_clean.ensures
    ∙ ap (λ (bytes : List ℕ). length (filter (λ byte. byte == 0) (take n (drop c.args.first bytes)))) c.deref.ensures.value
    ∙ clean_lines c.self.inside.bytes.items c.args.first n
    (omega (arith, c.requires.order, c.requires.below, ap length c.self.view_is, length-map c.self.inside.bytes.items stand_of))
    ∙ ap (λ (v : List Stand). length (filter (λ line. is_clean (stand_at v line)) (range_with_len c.args.first n)))
    c.self.view_is
