use Rattle.std.proofs.Common.{◌≡◌, ◌∙◌, ◌+◌, ◌*◌, ap, arith, length, ℕ}
use Rattle.sdr_base.specs.Parts.{part}
use Rattle.sdr_image.proofs.StandsLemmas.{line_in_heap}
use Rattle.sdr_image.proofs.lines.read_line.Goals as goal

pub returns-clause-given : goal.returns-clause-given
returns-clause-given g c =
    let long : length c.read_at.new.into ≡ 64 = omega (arith, c.read_at.auto.into) in
    c.in_ok-read_at.ensures.given
    ∙ ap (λ (n : ℕ). part (c.heap_place.result + 64 * c.args.line) n (g.D.Disk.bytes c.args.disk.now)) long
    ∙ ap (λ (k : ℕ). part (k + 64 * c.args.line) 64 (g.D.Disk.bytes c.args.disk.now)) c.heap_place.ensures
    ∙ line_in_heap c.args.frame c.args.line (g.D.Disk.bytes c.args.disk.now) c.requires.below
