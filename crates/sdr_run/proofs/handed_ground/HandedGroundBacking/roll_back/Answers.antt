use Rattle.std.proofs.Common.{subst, false, sym}
use Rattle.sdr_machine.specs.Crash.{LeavesBefore}
use Rattle.sdr_machine.specs.Serving.{Brings, KeepsGround, MeetsFault, RollsBack}
use Rattle.sdr_machine.specs.Standing.{GroundState}
use Rattle.sdr_run.proofs.HandedLemmas.{stays_more}
use Rattle.sdr_run.proofs.SettledLemmas.{brings_where, ground_where, keeps_where, leaves_where, meets_where, on_err_more, on_ok_both}
use Rattle.sdr_run.specs.Settled.{StandsWhere}
use Rattle.sdr_station.specs.Grounded.{Grounded, HasDiskSound}
use Rattle.sdr_station.proofs.GroundLemmas.{restored_idle}
use Rattle.sdr_run.proofs.handed_ground.HandedGroundBacking.roll_back.Goals as goal

pub returns-clause-put_back : goal.returns-clause-put_back
returns-clause-put_back g c =
    let D = g.row.D.Denot in
    let M = g.row.M.Denot in
    let d = g.D.Disk in
    on_ok_both c.restore.result _ _ (Brings (λ (x : Grounded D M) (v : GroundState). StandsWhere g.J.HandedIn.condition d.bytes d.tells_crashes d.moment d.may_hold_after x v) c.args.self.now c.restore.new.self RollsBack)
    (λ memory both. subst (λ (o : Grounded D M). Brings (λ (x : Grounded D M) (v : GroundState). StandsWhere g.J.HandedIn.condition d.bytes d.tells_crashes d.moment d.may_hold_after x v) o c.restore.new.self RollsBack)
    c.self.view_is (brings_where g.J.HandedIn.condition d.bytes d.tells_crashes d.moment d.faults d.may_hold_after g.M.Media c.self.inside.ground c.restore.new.self memory both))
    c.restore.ensures.memory c.restore.ensures.put_back

pub returns-clause-fault : goal.returns-clause-fault
returns-clause-fault g c =
    let D = g.row.D.Denot in
    let M = g.row.M.Denot in
    let d = g.D.Disk in
    on_err_more c.restore.result _ (MeetsFault (ground_where g.J.HandedIn.condition d.bytes d.tells_crashes d.moment d.faults d.may_hold_after g.M.Media) c.args.self.now c.restore.new.self)
    (λ fault. subst (λ (o : Grounded D M). MeetsFault (ground_where g.J.HandedIn.condition d.bytes d.tells_crashes d.moment d.faults d.may_hold_after g.M.Media) o c.restore.new.self) c.self.view_is
    (meets_where g.J.HandedIn.condition d.bytes d.tells_crashes d.moment d.faults d.may_hold_after g.M.Media c.self.inside.ground c.restore.new.self fault))
    c.restore.ensures.fault

pub returns-clause-keeps : goal.returns-clause-keeps
returns-clause-keeps g c =
    let D = g.row.D.Denot in
    let M = g.row.M.Denot in
    let d = g.D.Disk in
    subst (λ (o : Grounded D M). KeepsGround (ground_where g.J.HandedIn.condition d.bytes d.tells_crashes d.moment d.faults d.may_hold_after g.M.Media) false o c.restore.new.self) c.self.view_is
    (keeps_where g.J.HandedIn.condition d.bytes d.tells_crashes d.moment d.faults d.may_hold_after g.M.Media c.self.inside.ground c.restore.new.self c.restore.ensures.keeps)

pub returns-clause-any_moment : goal.returns-clause-any_moment
returns-clause-any_moment g c =
    let D = g.row.D.Denot in
    let M = g.row.M.Denot in
    let d = g.D.Disk in
    subst (λ (o : Grounded D M). LeavesBefore (ground_where g.J.HandedIn.condition d.bytes d.tells_crashes d.moment d.faults d.may_hold_after g.M.Media) o c.restore.new.self) c.self.view_is
    (leaves_where g.J.HandedIn.condition d.bytes d.tells_crashes d.moment d.faults d.may_hold_after g.M.Media c.self.inside.ground c.restore.new.self c.restore.ensures.time c.restore.ensures.any_moment)

pub invariant_of-self : goal.invariant_of-self
invariant_of-self g c =
    stays_more g.D.Disk.bytes g.D.Disk.tells_crashes g.J.HandedIn.was.bytes c.self.inside.ground c.restore.new.self c.self.invariant c.restore.ensures.inside

pub returns-clause-idle : goal.returns-clause-idle
returns-clause-idle g c =
    let D = g.row.D.Denot in
    let M = g.row.M.Denot in
    restored_idle c.restore.result c.self.inside.ground c.restore.new.self (subst (λ (o : Grounded D M). HasDiskSound o) (sym c.self.view_is) c.requires.sound)
    c.restore.ensures.going c.restore.ensures.idle c.restore.ensures.sound
