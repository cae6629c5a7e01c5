use Rattle.std.proofs.Common.{◌≡◌, ◌∙◌, ℕ, List, true, false, inl, sym, subst, arith, codes, length, nat_eq}
use Rattle.std.specs.List.{starts_with}
use Rattle.sdr_system.proofs.HeadsLemmas.{short_line}
use Rattle.sdr_system.proofs.heads.cut_head.Goals as goal

pub returns-then-starts_with-clause-told : goal.returns-then-starts_with-clause-told
returns-then-starts_with-clause-told g c =
    let x = g.D.Disk.bytes c.args.disk.now in
    let long : length c.read_at.new.into ≡ length x = omega (arith, c.read_at.auto.into, c.requires.all) in
    let line = short_line x c.read_at.new.into c.in_ok-read_at.ensures.given long c.requires.short in (
      subst (λ (l : List ℕ). starts_with nat_eq l (codes "SDRHEAP1") ≡ true) line (sym c.starts_with.ensures.value ∙ c.if-starts_with.true),
      inl (omega (arith, c.requires.short)),
    )

pub returns-else-starts_with-clause-told : goal.returns-else-starts_with-clause-told
returns-else-starts_with-clause-told g c =
    let x = g.D.Disk.bytes c.args.disk.now in
    let long : length c.read_at.new.into ≡ length x = omega (arith, c.read_at.auto.into, c.requires.all) in
    let line = short_line x c.read_at.new.into c.in_ok-read_at.ensures.given long c.requires.short in
    subst (λ (l : List ℕ). starts_with nat_eq l (codes "SDRHEAP1") ≡ false) line (sym c.starts_with.ensures.value ∙ c.if-starts_with.false)
