-- The words, and the path behind them.
use Rattle.std.proofs.Common.{◌∙◌, List, ℕ, [], ◌∷◌, ap, refl}
use Rattle.sdr_base.specs.Parts.{overwrite}
use Rattle.sdr_base.proofs.ObjectsLemmas.{layout-words}
use Rattle.zco_ref.proofs.MadeLemmas.{file_is}
use Rattle.zco_ref.proofs.making.fill.Goals as goal

pub returns : goal.returns
returns c =
    c.put_at-2.ensures
    ∙ ap (λ (l : List ℕ). overwrite 48 c.args.path.now l) c.put_at.ensures
    ∙ file_is (c.args.medium ∷ 0 ∷ 0 ∷ 0 ∷ 0 ∷ c.args.bytes ∷ []) c.args.path.now _ c.args.into.now
    (c.write_u64_into.ensures ∙ layout-words _) refl c.requires.long
