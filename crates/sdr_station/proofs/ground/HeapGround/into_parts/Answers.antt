use Rattle.std.proofs.Common.{◌∙◌, ap, subst}
use Rattle.sdr_image.specs.Opened.{Holds, Opened}
use Rattle.sdr_station.specs.Grounded.{Grounded}
use Rattle.sdr_station.proofs.ground.HeapGround.into_parts.Goals as goal

pub returns-clause-holds : goal.returns-clause-holds
returns-clause-holds g c =
    let D = g.row.D.Denot in
    let M = g.row.M.Denot in
    subst (λ (i : Opened D). Holds g.D.Disk.bytes i)
    (c.into_cells.ensures ∙ ap (λ (o : Grounded D M). o.heap.cells) c.self.view_is) c.into_disk.ensures.holds
