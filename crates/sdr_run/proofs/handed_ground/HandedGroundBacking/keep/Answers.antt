use Rattle.std.proofs.Common.{subst, false}
use Rattle.sdr_machine.specs.Crash.{LeavesEither}
use Rattle.sdr_machine.specs.Serving.{Brings, Commits, KeepsGround, MeetsFault}
use Rattle.sdr_machine.specs.Standing.{GroundState}
use Rattle.sdr_run.proofs.HandedLemmas.{stays_more}
use Rattle.sdr_run.proofs.SettledLemmas.{brings_where, ground_where, keeps_where, leaves_either_where, meets_where, on_ok_both}
use Rattle.sdr_run.specs.Settled.{StandsWhere}
use Rattle.sdr_station.specs.Grounded.{Grounded}
use Rattle.sdr_run.proofs.handed_ground.HandedGroundBacking.keep.Goals as goal

pub returns-clause-kept : goal.returns-clause-kept
returns-clause-kept g c =
    let D = g.row.D.Denot in
    let M = g.row.M.Denot in
    let d = g.D.Disk in
    on_ok_both c.keep.result _ _ (Brings (λ (x : Grounded D M) (v : GroundState). StandsWhere g.J.HandedIn.condition d.bytes d.tells_crashes d.moment d.may_hold_after x v) c.args.self.now c.keep.new.self Commits)
    (λ memory both. subst (λ (o : Grounded D M). Brings (λ (x : Grounded D M) (v : GroundState). StandsWhere g.J.HandedIn.condition d.bytes d.tells_crashes d.moment d.may_hold_after x v) o c.keep.new.self Commits)
    c.self.view_is (brings_where g.J.HandedIn.condition d.bytes d.tells_crashes d.moment d.faults d.may_hold_after g.M.Media c.self.inside.ground c.keep.new.self memory both))
    c.keep.ensures.brings c.keep.ensures.kept

pub returns-clause-fault : goal.returns-clause-fault
returns-clause-fault g c is =
    let D = g.row.D.Denot in
    let M = g.row.M.Denot in
    let d = g.D.Disk in
    subst (λ (o : Grounded D M). MeetsFault (ground_where g.J.HandedIn.condition d.bytes d.tells_crashes d.moment d.faults d.may_hold_after g.M.Media) o c.keep.new.self) c.self.view_is
    (meets_where g.J.HandedIn.condition d.bytes d.tells_crashes d.moment d.faults d.may_hold_after g.M.Media c.self.inside.ground c.keep.new.self (c.keep.ensures.fault is))

pub returns-clause-keeps : goal.returns-clause-keeps
returns-clause-keeps g c =
    let D = g.row.D.Denot in
    let M = g.row.M.Denot in
    let d = g.D.Disk in
    subst (λ (o : Grounded D M). KeepsGround (ground_where g.J.HandedIn.condition d.bytes d.tells_crashes d.moment d.faults d.may_hold_after g.M.Media) false o c.keep.new.self) c.self.view_is
    (keeps_where g.J.HandedIn.condition d.bytes d.tells_crashes d.moment d.faults d.may_hold_after g.M.Media c.self.inside.ground c.keep.new.self c.keep.ensures.keeps)

pub returns-clause-any_moment : goal.returns-clause-any_moment
returns-clause-any_moment g c =
    let D = g.row.D.Denot in
    let M = g.row.M.Denot in
    let d = g.D.Disk in
    subst (λ (o : Grounded D M). LeavesEither (ground_where g.J.HandedIn.condition d.bytes d.tells_crashes d.moment d.faults d.may_hold_after g.M.Media) o c.keep.new.self) c.self.view_is
    (leaves_either_where g.J.HandedIn.condition d.bytes d.tells_crashes d.moment d.faults d.may_hold_after g.M.Media c.self.inside.ground c.keep.new.self c.keep.ensures.time c.keep.ensures.any_moment)

pub invariant_of-self : goal.invariant_of-self
invariant_of-self g c =
    stays_more g.D.Disk.bytes g.D.Disk.tells_crashes g.J.HandedIn.was.bytes c.self.inside.ground c.keep.new.self c.self.invariant c.keep.ensures.inside
