use Rattle.std.proofs.Common.{[], ◌≡◌, ◌∙◌, ◌&&◌, Some, not, false, ap, subst, sym}
use Rattle.sdr_machine.specs.Core.{has_left, under}
use Rattle.sdr_machine.specs.Roll.{daemon_of, number_of}
use Rattle.sdr_machine.specs.Serving.{made_with}
use Rattle.sdr_model.specs.declared.event.Event.TheVariants as events
use Rattle.sdr_core.proofs.LeaveNotes.{leave_after, leave_kept, leave_makes, leave_outside, leave_room}
use Rattle.sdr_core.specs.CoreKept.{LoggedLock, MakesCoreStep}
use Rattle.sdr_core.specs.Logging.{log_of}
use Rattle.sdr_core.specs.Noting.{made_noted, under_of}
use Rattle.sdr_core.specs.declared.noted.Noted.{Noted}
use Rattle.sdr_core.proofs.core_run.Core.leave.Given.{Over}
use Rattle.sdr_core.proofs.core_run.Core.leave.Goals as goal
use Rattle.sdr_core.proofs.core_run.Core.leave.Goals.{After-note_leave}

-- what is noted
abbrev noted_in : (g : Over) → goal.After-event-2-1 g → Noted
noted_in g c = record {
  line = c.args.line;
  daemon = c.args.daemon;
  came = c.in-Ok.came;
  begun = c.moment-begun.result;
  done = c.moment-done.result;
  under = record { number = c.number_of-number.result; waited = false; left = c.leaves_now-left.result };
}

made_is : (g : Over) (c : goal.After-event-2-1 g) → made_noted (noted_in g c) (events.Leaves c.args.leave) [] []
    ≡ made_with c.args.daemon (events.Leaves c.args.leave) c.in-Ok.came (g.T.HasGround.moment c.self.inside.lock.base) (g.T.HasGround.moment c.event.new.self.base) c.args.line [] []
made_is g c = λ i. made_with c.args.daemon (events.Leaves c.args.leave) c.in-Ok.came (c.moment-begun.ensures i) (c.moment-done.ensures i) c.args.line [] []

under_is : (g : Over) (c : goal.After-event-2-1 g) → under_of (noted_in g c).under
    ≡ under c.self.inside.lock.roll c.args.known.now c.event.new.self.roll (events.Leaves c.args.leave)
under_is g c =
    let d = c.args.known.now in
    λ i. record {
      number = (c.number_of-number.ensures ∙ ap (λ r. number_of r d) c.roll.ensures) i;
      waited = false;
      left = (c.leaves_now-left.ensures ∙ ap (λ r. has_left r d.id && not d.left) c.roll-2.ensures) i;
    }

found_is : (g : Over) (c : goal.After-event-2-1 g) → daemon_of c.self.inside.lock.roll c.args.daemon ≡ Some c.args.known.now
found_is g c = subst (λ (k : LoggedLock g.row.T.Denot). daemon_of k.lock.roll c.args.daemon ≡ Some c.args.known.now) (sym c.self.view_is) c.requires.found

pub note_leave-requires-clause-kept : goal.note_leave-requires-clause-kept
note_leave-requires-clause-kept g c =
    leave_kept g.T.HasGround g.J.Origin.begins c.args.daemon c.args.line c.args.leave c.in-Ok.came c.self.inside.lock c.event.new.self c.self.inside.keeper
    c.args.known.now c.self.invariant (found_is g c) c.in-Ok.ensures.step

pub note_leave-requires-clause-outside : goal.note_leave-requires-clause-outside
note_leave-requires-clause-outside g c =
    leave_outside g.T.HasGround g.J.Origin.begins c.args.daemon c.args.line c.args.leave c.in-Ok.came c.self.inside.lock c.event.new.self c.self.inside.keeper
    c.args.known.now c.self.invariant (found_is g c) c.in-Ok.ensures.step

pub note_leave-requires-clause-room : goal.note_leave-requires-clause-room
note_leave-requires-clause-room g c =
    leave_room g.T.HasGround g.J.Origin.begins c.args.daemon c.args.line c.args.leave c.in-Ok.came c.self.inside.lock c.event.new.self c.self.inside.keeper
    c.args.known.now c.self.invariant (found_is g c) c.in-Ok.ensures.step (noted_in g c) (made_is g c) (under_is g c)

-- the leave is a step of the core
made : (g : Over) (c : After-note_leave g) → MakesCoreStep g.T.HasGround c.args.daemon c.args.line (events.Leaves c.args.leave) c.in-Ok.came
    c.self.inside.lock (log_of c.self.inside.keeper) c.event.new.self (log_of c.note_leave.new.self)
made g c =
    leave_makes g.T.HasGround g.J.Origin.begins c.args.daemon c.args.line c.args.leave c.in-Ok.came c.self.inside.lock c.event.new.self c.self.inside.keeper
    c.args.known.now c.self.invariant (found_is g c.before) c.in-Ok.ensures.step (noted_in g c.before) (made_is g c.before) (under_is g c.before)
    c.note_leave.new.self c.note_leave.ensures.log

pub returns : goal.returns
returns g c =
    subst (λ (k : LoggedLock g.row.T.Denot). MakesCoreStep g.T.HasGround c.args.daemon c.args.line (events.Leaves c.args.leave) c.in-Ok.came
    k.lock k.log c.event.new.self (log_of c.note_leave.new.self)) c.self.view_is (made g c.before)

pub invariant_of-self : goal.invariant_of-self
invariant_of-self g c =
    let k = c.before.before in
    leave_after g.T.HasGround g.J.Origin.begins c.args.daemon c.args.line c.args.leave c.in-Ok.came c.self.inside.lock c.event.new.self c.self.inside.keeper
    c.args.known.now c.self.invariant (found_is g k) c.in-Ok.ensures.step (noted_in g k) (made_is g k) (under_is g k) c.note_leave.new.self c.note_leave.ensures.log
    c.note_leave.ensures.room c.note_leave.ensures.spacious c.note_leave.ensures.apart
