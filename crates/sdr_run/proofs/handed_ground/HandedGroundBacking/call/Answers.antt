use Rattle.std.proofs.Common.{arith, subst, true}
use Rattle.sdr_machine.specs.Crash.{LeavesBefore}
use Rattle.sdr_machine.specs.Serving.{Brings, Calls, KeepsGround, MeetsFault}
use Rattle.sdr_machine.specs.Standing.{GroundState}
use Rattle.sdr_run.proofs.HandedLemmas.{stays_more}
use Rattle.sdr_run.proofs.SettledLemmas.{brings_where, ground_where, if_ok_both, keeps_where, leaves_where, meets_where}
use Rattle.sdr_run.specs.Settled.{StandsWhere}
use Rattle.sdr_station.specs.Grounded.{Grounded}
use Rattle.sdr_run.proofs.handed_ground.HandedGroundBacking.call.Goals as goal

pub returns-clause-answered : goal.returns-clause-answered
returns-clause-answered g c =
    let D = g.row.D.Denot in
    let M = g.row.M.Denot in
    let d = g.D.Disk in
    if_ok_both c.call.result _ _ (λ reply. Brings (λ (x : Grounded D M) (v : GroundState). StandsWhere g.J.HandedIn.condition d.bytes d.tells_crashes d.moment d.may_hold_after x v) c.args.self.now c.call.new.self (Calls (g.M.Media.told c.args.self.now.media) c.args.call.now reply))
    (λ reply memory both. subst (λ (o : Grounded D M). Brings (λ (x : Grounded D M) (v : GroundState). StandsWhere g.J.HandedIn.condition d.bytes d.tells_crashes d.moment d.may_hold_after x v) o c.call.new.self (Calls (g.M.Media.told o.media) c.args.call.now reply))
    c.self.view_is (brings_where g.J.HandedIn.condition d.bytes d.tells_crashes d.moment d.faults d.may_hold_after g.M.Media c.self.inside.ground c.call.new.self memory both))
    c.call.ensures.brings c.call.ensures.answered

-- this ground doesn't tell how often its media were asked
pub returns-clause-needs : goal.returns-clause-needs
returns-clause-needs g c = record { each = λ v stands. omega arith }

pub returns-clause-fault : goal.returns-clause-fault
returns-clause-fault g c is =
    let D = g.row.D.Denot in
    let M = g.row.M.Denot in
    let d = g.D.Disk in
    subst (λ (o : Grounded D M). MeetsFault (ground_where g.J.HandedIn.condition d.bytes d.tells_crashes d.moment d.faults d.may_hold_after g.M.Media) o c.call.new.self) c.self.view_is
    (meets_where g.J.HandedIn.condition d.bytes d.tells_crashes d.moment d.faults d.may_hold_after g.M.Media c.self.inside.ground c.call.new.self (c.call.ensures.fault is))

pub returns-clause-keeps : goal.returns-clause-keeps
returns-clause-keeps g c =
    let D = g.row.D.Denot in
    let M = g.row.M.Denot in
    let d = g.D.Disk in
    subst (λ (o : Grounded D M). KeepsGround (ground_where g.J.HandedIn.condition d.bytes d.tells_crashes d.moment d.faults d.may_hold_after g.M.Media) true o c.call.new.self) c.self.view_is
    (keeps_where g.J.HandedIn.condition d.bytes d.tells_crashes d.moment d.faults d.may_hold_after g.M.Media c.self.inside.ground c.call.new.self c.call.ensures.keeps)

pub returns-clause-any_moment : goal.returns-clause-any_moment
returns-clause-any_moment g c =
    let D = g.row.D.Denot in
    let M = g.row.M.Denot in
    let d = g.D.Disk in
    subst (λ (o : Grounded D M). LeavesBefore (ground_where g.J.HandedIn.condition d.bytes d.tells_crashes d.moment d.faults d.may_hold_after g.M.Media) o c.call.new.self) c.self.view_is
    (leaves_where g.J.HandedIn.condition d.bytes d.tells_crashes d.moment d.faults d.may_hold_after g.M.Media c.self.inside.ground c.call.new.self c.call.ensures.time c.call.ensures.any_moment)

pub invariant_of-self : goal.invariant_of-self
invariant_of-self g c =
    stays_more g.D.Disk.bytes g.D.Disk.tells_crashes g.J.HandedIn.was.bytes c.self.inside.ground c.call.new.self c.self.invariant c.call.ensures.inside
