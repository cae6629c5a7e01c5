-- The name is copied behind its length.
use Rattle.std.proofs.Common.{◌≡◌, ℕ, ◌+◌, ◌-◌, ◌∷◌, ◌++◌, length, drop, ap, ◌∙◌, arith}
use Rattle.std.specs.Prelude.{replicate}
use Rattle.sdr_cat.proofs.NameLemmas.{stored_is}
use Rattle.sdr_cat.proofs.name.stored.Goals as goal

pub returns : goal.returns
returns c =
    let name = c.args.name.now in
    let e : 1 + length name - 1 ≡ length name = omega arith in
    ap (λ k. length name ∷ (c.copy_from_slice.new.self ++ drop k (replicate {A = ℕ} 31 0))) e
    ∙ stored_is name _ c.requires.short c.copy_from_slice.ensures.after
