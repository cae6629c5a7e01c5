use Rattle.std.proofs.Common.{◌≡◌, ◌⊎◌, ⊎_elim, inl, inr, sym, subst, List, ℕ, Contains}
use Rattle.sdr_image.specs.Lines.{IsLineOf}
use Rattle.sdr_image.proofs.lines.clean_line.Goals as goal

pub returns-clause-kept : goal.returns-clause-kept
returns-clause-kept g c e has =
    let x = g.D.Disk.bytes c.args.disk.now in
    let P : ℕ × List ℕ → Type 0 =
    λ e. Contains c.args.cache.now e ⊎ ((e.0 ≡ c.args.line) × IsLineOf c.args.frame x e) in
    ⊎_elim (λ old. inl old)
    (λ new. subst P (sym new) (inr (Rattle.std.proofs.Common.refl, (c.requires.below, c.in_ok-bytes.ensures.given))))
    (c.keep.ensures e has)
