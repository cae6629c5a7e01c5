use Rattle.std.proofs.Common.{◌≡◌, ◌∙◌, IfOk, None, ap, subst, sym}
use Rattle.std.proofs.lemmas.Result.{IfOk-weaker}
use Rattle.sdr_machine.specs.Roll.{daemon_of}
use Rattle.sdr_machine.specs.declared.came.Came.{Came}
use Rattle.sdr_model.specs.declared.event.Event.{Event}
use Rattle.sdr_core.proofs.CoreLemmas.{core_failed, core_unknown, unknown_makes}
use Rattle.sdr_core.specs.CoreKept.{LoggedLock, MakesCoreStep}
use Rattle.sdr_core.specs.Logging.{log_of}
use Rattle.sdr_core.proofs.core_run.Core.event.Given.{Over}
use Rattle.sdr_core.proofs.core_run.Core.event.Goals as goal

-- the daemon is none of the lock's
none : (g : Over) (c : goal.After-event g) → daemon_of c.self.inside.lock.roll c.args.daemon ≡ None
none g c = ap (λ r. daemon_of r c.args.daemon) (sym c.roll.ensures) ∙ sym c.daemon.ensures ∙ c.in_default.is

-- nothing is noted of its event
unknown : (g : Over) (c : goal.After-event g) → IfOk c.event.result (λ (came : Came). MakesCoreStep g.T.HasGround c.args.daemon c.args.line c.args.event.now came
    c.args.self.now.lock c.args.self.now.log c.event.new.self (log_of c.self.inside.keeper))
unknown g c =
    subst (λ (k : LoggedLock g.row.T.Denot). IfOk c.event.result (λ (came : Came). MakesCoreStep g.T.HasGround c.args.daemon c.args.line c.args.event.now came
    k.lock k.log c.event.new.self (log_of c.self.inside.keeper))) c.self.view_is
    (IfOk-weaker _ _ _ (unknown_makes g.T.HasGround g.J.Origin.begins c.self.inside.lock c.self.inside.keeper c.self.invariant c.event.new.self
    c.args.daemon c.args.line c.args.event.now (none g c)) c.event.ensures.step)

pub invariant_of-self : goal.invariant_of-self
invariant_of-self g c =
    core_unknown g.T.HasGround g.J.Origin.begins c.self.inside.lock c.self.inside.keeper c.self.invariant c.event.new.self
    c.args.daemon c.args.line c.args.event.now (none g c) c.event.result c.event.ensures.step c.event.ensures.err

pub returns-in_default-clause-makes : goal.returns-in_default-clause-makes
returns-in_default-clause-makes g c = unknown g c

pub returns-in_default-clause-failed : goal.returns-in_default-clause-failed
returns-in_default-clause-failed g c =
    IfOk-weaker _ _ _ (core_failed g.T.HasGround g.J.Origin.begins c.self.inside.lock c.self.inside.keeper c.self.invariant c.args.self.now
    (record { lock = c.event.new.self; log = log_of c.self.inside.keeper }) c.self.view_is c.args.daemon c.args.line c.args.event.now) (unknown g c)

pub returns-in-Leaves-clause-makes : goal.returns-in-Leaves-clause-makes
returns-in-Leaves-clause-makes g c =
    subst (λ (event : Event). MakesCoreStep g.T.HasGround c.args.daemon c.args.line event c.leave.result c.args.self.now.lock c.args.self.now.log
    c.leave.new.self.lock c.leave.new.self.log) (sym c.in-Leaves.is) c.leave.ensures

pub returns-in-Leaves-clause-failed : goal.returns-in-Leaves-clause-failed
returns-in-Leaves-clause-failed g c =
    core_failed g.T.HasGround g.J.Origin.begins c.self.inside.lock c.self.inside.keeper c.self.invariant c.args.self.now c.leave.new.self c.self.view_is
    c.args.daemon c.args.line _ c.leave.result c.leave.ensures

pub returns-in_default-event-clause-failed : goal.returns-in_default-event-clause-failed
returns-in_default-event-clause-failed g c =
    IfOk-weaker _ _ _ (core_failed g.T.HasGround g.J.Origin.begins c.self.inside.lock c.self.inside.keeper c.self.invariant c.args.self.now c.make.new.self
    c.self.view_is c.args.daemon c.args.line c.args.event.now) c.make.ensures.makes
