use Rattle.std.proofs.Common.{◌∙◌, ap, true≢false}
use Rattle.sdr_image.specs.Opened.{Opened}
use Rattle.sdr_image.proofs.ImageLemmas.{idle_begun}
use Rattle.sdr_image.proofs.image.Image.begin.Goals as goal

pub invariant_of-self : goal.invariant_of-self
invariant_of-self g c =
    let i = c.self.invariant in
    record {
      limits = i.limits;
      fits = i.fits;
      lines_kept = i.lines_kept;
      idle = λ closed. absurd (true≢false closed);
      stands = i.stands;
    }

pub returns-clause-bytes : goal.returns-clause-bytes
returns-clause-bytes g c =
    let o = c.self.inside in
    let closed = ap (λ (v : Opened g.row.D.Denot). v.is_open) c.self.view_is ∙ c.requires in
    idle_begun o.frame (g.D.Disk.bytes o.disk) o.lines o.is_open o.failed c.self.invariant closed

pub returns-clause-touched : goal.returns-clause-touched
returns-clause-touched g c =
    (c.self.invariant.idle (ap (λ (v : Opened g.row.D.Denot). v.is_open) c.self.view_is ∙ c.requires)).0
