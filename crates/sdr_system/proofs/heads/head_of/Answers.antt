use Rattle.std.proofs.Common.{◌≡◌, ◌∙◌, ℕ, ap, arith, length}
use Rattle.sdr_base.specs.Parts.{part}
use Rattle.sdr_system.proofs.HeadsLemmas.{first_read, tells_in}
use Rattle.sdr_system.proofs.heads.head_of.Goals as goal

pub returns-clause-told : goal.returns-clause-told
returns-clause-told g c =
    let x = g.D.Disk.bytes c.args.disk.now in
    let long : length c.read_at.new.into ≡ 64 = c.read_at.auto.into in
    let given = c.in_ok-read_at.ensures.given ∙ ap (λ (n : ℕ). part 0 n x) long in
    tells_in x c.read_at.new.into c.head_in.result (first_read x c.read_at.new.into 64 given)
    (omega (arith, c.if-have.false, c.len-have.ensures)) c.head_in.ensures.tells
