use Rattle.std.proofs.Common.{◌≡◌, ◌∙◌, None, Some, arith, subst, sym}
use Rattle.sdr_machine.proofs.HolderLemmas.{unserved_none}
use Rattle.sdr_machine.specs.Leaving.{served_daemon}
use Rattle.sdr_machine.specs.Roll.{Roll}
use Rattle.sdr_machine.specs.declared.daemon.Daemon.{Daemon}
use Rattle.sdr_core.proofs.LeavingLemmas.{holders_more, holders_none, leave_fewer, leave_many, served_may}
use Rattle.sdr_core.proofs.leaving.+holders_leave.Goals as goal

pub make_leave-requires-clause-drawn : goal.make_leave-requires-clause-drawn
make_leave-requires-clause-drawn g t c =
    let roll : Roll = g.R.HasRun.roll_of c.args.run.now in
    let d : Daemon = c.in-Some.daemon in
    let served : served_daemon roll ≡ Some d = subst (λ r. served_daemon r ≡ Some d) c.roll.ensures.roll (sym c.in-Some.ensures) in
    served_may roll d c.roll.ensures.first served

pub holders_leave-requires : goal.holders_leave-requires
holders_leave-requires g t c κs within =
    let roll : Roll = g.R.HasRun.roll_of c.args.run.now in
    let d : Daemon = c.in-Some.daemon in
    let served : served_daemon roll ≡ Some d = subst (λ r. served_daemon r ≡ Some d) c.roll.ensures.roll (sym c.in-Some.ensures) in
    let fewer = leave_fewer g.R.HasRun c.args.leave c.make_leave.result c.args.run.now c.make_leave.new.run d c.make_leave.ensures.makes c.roll.ensures.come c.roll.ensures.first served in
    (omega (arith, fewer), (within, c.make_leave.ensures.makes.lasts))

pub returns-in-Some-clause-left : goal.returns-in-Some-clause-left
returns-in-Some-clause-left g t c =
    let roll : Roll = g.R.HasRun.roll_of c.args.run.now in
    let d : Daemon = c.in-Some.daemon in
    let served : served_daemon roll ≡ Some d = subst (λ r. served_daemon r ≡ Some d) c.roll.ensures.roll (sym c.in-Some.ensures) in
    holders_more g.R.HasRun c.args.leave c.make_leave.result c.args.run.now c.make_leave.new.run d c.holders_leave.new.run served c.make_leave.ensures.makes c.make_leave.ensures.asks c.holders_leave.ensures.left

pub returns-in-Some-clause-daemons : goal.returns-in-Some-clause-daemons
returns-in-Some-clause-daemons g t c =
    let roll : Roll = g.R.HasRun.roll_of c.args.run.now in
    let d : Daemon = c.in-Some.daemon in
    let served : served_daemon roll ≡ Some d = subst (λ r. served_daemon r ≡ Some d) c.roll.ensures.roll (sym c.in-Some.ensures) in
    c.holders_leave.ensures.daemons
    ∙ leave_many g.R.HasRun c.args.leave c.make_leave.result c.args.run.now c.make_leave.new.run d c.make_leave.ensures.makes c.roll.ensures.come c.roll.ensures.first served

pub returns-in-Some-clause-drawn : goal.returns-in-Some-clause-drawn
returns-in-Some-clause-drawn g t c =
    let roll : Roll = g.R.HasRun.roll_of c.args.run.now in
    let d : Daemon = c.in-Some.daemon in
    let served : served_daemon roll ≡ Some d = subst (λ r. served_daemon r ≡ Some d) c.roll.ensures.roll (sym c.in-Some.ensures) in
    let fewer = leave_fewer g.R.HasRun c.args.leave c.make_leave.result c.args.run.now c.make_leave.new.run d c.make_leave.ensures.makes c.roll.ensures.come c.roll.ensures.first served in
    let one = c.make_leave.ensures.makes.drawn in
    let more = c.holders_leave.ensures.drawn in
    omega (arith, fewer, one, more)

pub returns-in_default-clause-left : goal.returns-in_default-clause-left
returns-in_default-clause-left g t c =
    holders_none g.R.HasRun c.args.leave c.args.run.now
    (subst (λ r. served_daemon r ≡ None) c.roll.ensures.roll (sym c.served.ensures ∙ c.in_default.is))

pub returns-in_default-clause-none : goal.returns-in_default-clause-none
returns-in_default-clause-none g t c =
    unserved_none (g.R.HasRun.roll_of c.args.run.now) (subst (λ r. served_daemon r ≡ None) c.roll.ensures.roll (sym c.served.ensures ∙ c.in_default.is))
