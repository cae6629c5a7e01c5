use Rattle.std.proofs.Common.{subst}
use Rattle.sdr_machine.proofs.GroundLemmas.{leaves_or, leaves_same}
use Rattle.sdr_machine.specs.Crash.{LeavesOr, commits_in}
use Rattle.sdr_model.specs.declared.event.Event.TheVariants as events
use Rattle.sdr_station.proofs.GroundLemmas.{heap_ground}
use Rattle.sdr_station.specs.Stationed.{Stationed}
use Rattle.sdr_station.proofs.station.Station.end.Goals as goal

pub returns-then-is_some-clause-any_moment : goal.returns-then-is_some-clause-any_moment
returns-then-is_some-clause-any_moment g c =
    let h = heap_ground g.D.Disk.bytes g.D.Disk.tells_crashes g.D.Disk.moment g.D.Disk.faults g.D.Disk.may_hold_after g.M.Media in
    leaves_or h (commits_in c.args.self.now.nesting events.End) (leaves_same h c.args.self.now.ground)

pub returns-clause-any_moment : goal.returns-clause-any_moment
returns-clause-any_moment g c =
    let h = heap_ground g.D.Disk.bytes g.D.Disk.tells_crashes g.D.Disk.moment g.D.Disk.faults g.D.Disk.may_hold_after g.M.Media in
    let keeps = commits_in c.args.self.now.nesting events.End in
    subst (λ (s : Stationed g.row.D.Denot g.row.M.Denot). LeavesOr keeps h s.ground c.self.inside.ground) c.self.view_is
    (leaves_or h keeps (leaves_same h c.self.inside.ground))
