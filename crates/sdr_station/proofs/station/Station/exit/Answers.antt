use Rattle.std.proofs.Common.{Bool, subst}
use Rattle.sdr_machine.proofs.GroundLemmas.{leaves_same}
use Rattle.sdr_machine.specs.Crash.{LeavesBefore, LeavesOr}
use Rattle.sdr_station.proofs.GroundLemmas.{heap_ground}
use Rattle.sdr_station.proofs.StationLemmas.{exit_keeps_none}
use Rattle.sdr_station.specs.Stationed.{Stationed}
use Rattle.sdr_station.proofs.station.Station.exit.Goals as goal

pub returns-then-is_some-clause-any_moment : goal.returns-then-is_some-clause-any_moment
returns-then-is_some-clause-any_moment g c =
    let h = heap_ground g.D.Disk.bytes g.D.Disk.tells_crashes g.D.Disk.moment g.D.Disk.faults g.D.Disk.may_hold_after g.M.Media in
    leaves_same h c.args.self.now.ground

pub returns-then-self-le1-clause-any_moment : goal.returns-then-self-le1-clause-any_moment
returns-then-self-le1-clause-any_moment g c =
    let h = heap_ground g.D.Disk.bytes g.D.Disk.tells_crashes g.D.Disk.moment g.D.Disk.faults g.D.Disk.may_hold_after g.M.Media in
    subst (λ (b : Bool). LeavesOr b h c.args.self.now.ground c.close.new.self.ground) (exit_keeps_none c.args.self.now.nesting)
    c.close.ensures.any_moment

pub returns-clause-any_moment : goal.returns-clause-any_moment
returns-clause-any_moment g c =
    let h = heap_ground g.D.Disk.bytes g.D.Disk.tells_crashes g.D.Disk.moment g.D.Disk.faults g.D.Disk.may_hold_after g.M.Media in
    subst (λ (s : Stationed g.row.D.Denot g.row.M.Denot). LeavesBefore h s.ground c.self.inside.ground) c.self.view_is (leaves_same h c.self.inside.ground)
