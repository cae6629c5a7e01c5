-- The link in front, and the text behind it.
use Rattle.std.proofs.Common.{◌∙◌, List, ℕ, ap}
use Rattle.sdr_base.specs.Parts.{overwrite}
use Rattle.sdr_base.proofs.ObjectsLemmas.{layout-words}
use Rattle.zco_obj.proofs.PlaceLemmas.{capsule_is}
use Rattle.zco_obj.proofs.capsule.fill.Goals as goal

pub returns : goal.returns
returns c =
    c.put_at-2.ensures
    ∙ ap (λ (l : List ℕ). overwrite 8 c.args.text.now l) c.put_at.ensures
    ∙ capsule_is c.args.next c.args.text.now _ c.args.into.now
    (c.write_u64_into.ensures ∙ layout-words _) c.requires.long
