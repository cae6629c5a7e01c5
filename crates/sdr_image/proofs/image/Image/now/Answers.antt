use Rattle.std.proofs.Common.{subst}
use Rattle.sdr_image.specs.Opened.{Holds, Opened}
use Rattle.sdr_image.proofs.EndedLemmas.{image_holds}
use Rattle.sdr_image.specs.QuietLaws.{quiet_keeps, rests_leaves}
use Rattle.sdr_image.proofs.image.Image.now.Goals as goal

pub returns-clause-leaves : goal.returns-clause-leaves
returns-clause-leaves g c sound rests =
    rests_leaves g.D.Disk.bytes g.D.Disk.tells_crashes g.D.Disk.moment g.D.Disk.may_hold_after c.args.self.now sound rests

pub returns-clause-any_moment : goal.returns-clause-any_moment
returns-clause-any_moment g c before quiet =
    quiet_keeps g.D.Disk.bytes g.D.Disk.tells_crashes g.D.Disk.moment g.D.Disk.may_hold_after before _ quiet

pub returns-clause-holds : goal.returns-clause-holds
returns-clause-holds g c =
    let o = c.self.inside in
    subst (λ (v : Opened g.row.D.Denot). Holds g.D.Disk.bytes v) c.self.view_is
    (image_holds o.frame (g.D.Disk.bytes o.disk) o.lines o.is_open o.failed c.self.invariant)
