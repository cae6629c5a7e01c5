use Rattle.std.proofs.Common.{◌∙◌, ap, sym, length}
use Rattle.sdr_image.specs.Opened.{Opened}
use Rattle.sdr_image.proofs.ImageLemmas.{now_long}
use Rattle.sdr_image.proofs.image.ImageCells.size.Goals as goal

pub returns-clause-bytes : goal.returns-clause-bytes
returns-clause-bytes g c =
    let o = c.self.inside in
    let inv = c.self.invariant in
    sym (now_long o.frame o.lines (g.D.Disk.bytes o.disk) inv.lines_kept inv.fits)
    ∙ ap (λ (v : Opened g.row.D.Denot). length v.bytes) c.self.view_is
