use Rattle.std.proofs.Common.{◌∙◌, subst, sym}
use Rattle.sdr_image.specs.Opened.{Holds}
use Rattle.sdr_run.specs.Handed.{StaysAsHanded}
use Rattle.sdr_station.specs.Grounded.{Grounded}
use Rattle.sdr_run.proofs.handed_ground.HandedGround.into_parts.Goals as goal

pub returns-clause-stays : goal.returns-clause-stays
returns-clause-stays g c =
    let D = g.row.D.Denot in
    let M = g.row.M.Denot in
    let was = g.J.HandedIn.was.bytes in
    subst (λ (x : Grounded D M). StaysAsHanded was (g.D.Disk.bytes c.into_disk.result) x.heap.cells.frame) c.self.view_is
    (subst (λ (d : D). StaysAsHanded was (g.D.Disk.bytes d) c.self.inside.ground.heap.cells.frame)
    (sym (c.into_disk.ensures.disk ∙ c.into_parts-disk.ensures.disk)) c.self.invariant)

pub returns-clause-holds : goal.returns-clause-holds
returns-clause-holds g c =
    subst (λ (x : Grounded g.row.D.Denot g.row.M.Denot). Holds g.D.Disk.bytes x.heap.cells) c.self.view_is
    c.into_parts-disk.ensures.holds
