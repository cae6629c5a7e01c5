use Rattle.std.proofs.Common.{subst, sym, false}
use Rattle.sdr_machine.specs.Crash.{LeavesBefore}
use Rattle.sdr_machine.specs.Serving.{Brings, KeepsGround, MeetsFault, Shows}
use Rattle.sdr_machine.specs.Standing.{GroundState}
use Rattle.sdr_run.proofs.HandedLemmas.{stays_more}
use Rattle.sdr_run.proofs.SettledLemmas.{brings_where, ground_where, if_ok_both, keeps_where, leaves_where, meets_where, on_err_more}
use Rattle.sdr_run.specs.Settled.{StandsWhere}
use Rattle.sdr_station.proofs.LookLemmas.{seen_idle}
use Rattle.sdr_station.specs.Grounded.{Grounded, HasNoCalls}
use Rattle.sdr_run.proofs.handed_ground.HandedGroundBacking.look.Goals as goal

pub returns-clause-shown : goal.returns-clause-shown
returns-clause-shown g c =
    let D = g.row.D.Denot in
    let M = g.row.M.Denot in
    let d = g.D.Disk in
    if_ok_both c.look.result _ _ (λ granted. Brings (λ (x : Grounded D M) (v : GroundState). StandsWhere g.J.HandedIn.condition d.bytes d.tells_crashes d.moment d.may_hold_after x v) c.args.self.now c.look.new.self (Shows c.args.ticket granted))
    (λ granted memory both. subst (λ (o : Grounded D M). Brings (λ (x : Grounded D M) (v : GroundState). StandsWhere g.J.HandedIn.condition d.bytes d.tells_crashes d.moment d.may_hold_after x v) o c.look.new.self (Shows c.args.ticket granted))
    c.self.view_is (brings_where g.J.HandedIn.condition d.bytes d.tells_crashes d.moment d.faults d.may_hold_after g.M.Media c.self.inside.ground c.look.new.self memory both))
    c.look.ensures.memory c.look.ensures.shown

pub returns-clause-fault : goal.returns-clause-fault
returns-clause-fault g c =
    let D = g.row.D.Denot in
    let M = g.row.M.Denot in
    let d = g.D.Disk in
    on_err_more c.look.result _ (MeetsFault (ground_where g.J.HandedIn.condition d.bytes d.tells_crashes d.moment d.faults d.may_hold_after g.M.Media) c.args.self.now c.look.new.self)
    (λ fault. subst (λ (o : Grounded D M). MeetsFault (ground_where g.J.HandedIn.condition d.bytes d.tells_crashes d.moment d.faults d.may_hold_after g.M.Media) o c.look.new.self) c.self.view_is
    (meets_where g.J.HandedIn.condition d.bytes d.tells_crashes d.moment d.faults d.may_hold_after g.M.Media c.self.inside.ground c.look.new.self fault))
    c.look.ensures.fault

pub returns-clause-idle : goal.returns-clause-idle
returns-clause-idle g c =
    let D = g.row.D.Denot in
    let M = g.row.M.Denot in
    seen_idle c.look.result c.self.inside.ground c.look.new.self c.look.ensures.same c.look.ensures.sound (subst (λ (o : Grounded D M). HasNoCalls o) (sym c.self.view_is) c.requires.idle)

pub returns-clause-keeps : goal.returns-clause-keeps
returns-clause-keeps g c =
    let D = g.row.D.Denot in
    let M = g.row.M.Denot in
    let d = g.D.Disk in
    subst (λ (o : Grounded D M). KeepsGround (ground_where g.J.HandedIn.condition d.bytes d.tells_crashes d.moment d.faults d.may_hold_after g.M.Media) false o c.look.new.self) c.self.view_is
    (keeps_where g.J.HandedIn.condition d.bytes d.tells_crashes d.moment d.faults d.may_hold_after g.M.Media c.self.inside.ground c.look.new.self c.look.ensures.keeps)

pub returns-clause-any_moment : goal.returns-clause-any_moment
returns-clause-any_moment g c =
    let D = g.row.D.Denot in
    let M = g.row.M.Denot in
    let d = g.D.Disk in
    subst (λ (o : Grounded D M). LeavesBefore (ground_where g.J.HandedIn.condition d.bytes d.tells_crashes d.moment d.faults d.may_hold_after g.M.Media) o c.look.new.self) c.self.view_is
    (leaves_where g.J.HandedIn.condition d.bytes d.tells_crashes d.moment d.faults d.may_hold_after g.M.Media c.self.inside.ground c.look.new.self c.look.ensures.time c.look.ensures.any_moment)

pub invariant_of-self : goal.invariant_of-self
invariant_of-self g c =
    stays_more g.D.Disk.bytes g.D.Disk.tells_crashes g.J.HandedIn.was.bytes c.self.inside.ground c.look.new.self c.self.invariant c.look.ensures.inside
