use Rattle.std.proofs.Common.{ap, sym, subst}
use Rattle.sdr_image.specs.Opened.{Holds, LeavesHeap, Opened}
use Rattle.sdr_image.specs.QuietLaws.{rests_leaves}
use Rattle.sdr_image.proofs.EndedLemmas.{image_holds}
use Rattle.sdr_image.proofs.image.Image.into_disk.Goals as goal

pub returns-clause-leaves : goal.returns-clause-leaves
returns-clause-leaves g c sound rests =
    subst (λ (disk : g.row.D.Denot).
    LeavesHeap g.D.Disk.tells_crashes g.D.Disk.moment g.D.Disk.may_hold_after c.args.self.begun disk)
    (sym (ap (λ (v : Opened g.row.D.Denot). v.disk) c.self.view_is))
    (rests_leaves g.D.Disk.bytes g.D.Disk.tells_crashes g.D.Disk.moment g.D.Disk.may_hold_after c.args.self sound rests)

pub returns-clause-holds : goal.returns-clause-holds
returns-clause-holds g c =
    let o = c.self.inside in
    subst (λ (v : Opened g.row.D.Denot). Holds g.D.Disk.bytes v) c.self.view_is
    (image_holds o.frame (g.D.Disk.bytes o.disk) o.lines o.is_open o.failed c.self.invariant)
