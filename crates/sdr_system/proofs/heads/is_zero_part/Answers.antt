use Rattle.std.proofs.Common.{◌≡◌, ◌∙◌, ◌==◌, ℕ, List, ap, arith, length}
use Rattle.std.specs.List.{list_all}
use Rattle.sdr_base.specs.Parts.{part}
use Rattle.sdr_system.proofs.heads.is_zero_part.Goals as goal

pub returns-clause-zero : goal.returns-clause-zero
returns-clause-zero g c =
    let long : length c.read_at.new.into ≡ c.args.count = omega (arith, c.read_at.auto.into, c.requires.room) in
    c.are_zero.ensures
    ∙ ap (λ (l : List ℕ). list_all (λ b. b == 0) l)
    (c.in_ok-read_at.ensures.given ∙ ap (λ (n : ℕ). part c.args.place n (g.D.Disk.bytes c.args.disk.now)) long)
