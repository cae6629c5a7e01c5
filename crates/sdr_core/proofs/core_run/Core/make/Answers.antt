use Rattle.std.proofs.Common.{◌≡◌, ◌∙◌, ◌&&◌, Some, length, not, ap, arith, subst, sym}
use Rattle.sdr_machine.specs.Core.{has_left, log_after}
use Rattle.sdr_machine.specs.Machine.{Made}
use Rattle.sdr_machine.specs.Roll.{Roll, daemon_of, number_of}
use Rattle.sdr_machine.specs.Serving.{Locked, machine_at, made_by, made_with}
use Rattle.sdr_core.proofs.CoreLemmas.{core_after, core_same, core_stands, room_for_all}
use Rattle.sdr_core.proofs.RunLemmas.{makes, steps_known}
use Rattle.sdr_core.proofs.StepLemmas.{noted_said, step_closes, step_fits}
use Rattle.sdr_core.specs.CoreFacts.{IsCore}
use Rattle.sdr_core.specs.CoreKept.{LoggedLock, MakesCoreStep}
use Rattle.sdr_core.specs.Drafting.{FitsIn}
use Rattle.sdr_core.specs.Logging.{ClosesWithin, log_of}
use Rattle.sdr_core.specs.declared.noted.Noted.{Noted}
use Rattle.sdr_core.specs.Noting.{said_noted}
use Rattle.sdr_model.specs.declared.journal.Said.{Said}
use Rattle.sdr_core.proofs.core_run.Core.make.Given.{Over}
use Rattle.sdr_core.proofs.core_run.Core.make.Goals as goal

-- what is noted
abbrev noted_in : (g : Over) → goal.After-shown g → Noted
noted_in g c = record {
  line = c.args.line;
  daemon = c.args.daemon;
  came = c.in_ok-came.came;
  begun = c.moment-begun.result;
  done = c.moment-done.result;
  under = record { number = c.number_of-number.result; waited = c.looks_again-waited.result; left = c.leaves_now-left.result };
}

-- what was said
abbrev said_in : (g : Over) → goal.After-shown g → Said
said_in g c = said_noted (noted_in g c) c.in_ok-draft.draft.event c.moves.result.now c.shown.result.now

-- it fits in its draft, and what closes a transaction was said in one
noted : (g : Over) (c : goal.After-shown g) → FitsIn c.in_ok-draft.draft (said_in g c) × ClosesWithin (said_in g c)
noted g c =
    let ghosts = g.T.HasGround in
    let came = c.in_ok-came.came in
    let old = c.self.inside.lock in
    let run = c.self.invariant.run in
    let s = c.in_ok-came.ensures.step.leads.each run.for run.stood in
    let m = machine_at old.roll run.for in
    let m' = machine_at c.event.new.self.roll s.for in
    let e : Made = made_by c.args.daemon c.args.event.now came (ghosts.moment old.base) (ghosts.moment c.event.new.self.base) c.args.line s.for in
    subst (λ said. FitsIn c.in_ok-draft.draft said × ClosesWithin said)
    (sym (noted_said (noted_in g c) c.args.event.now c.in_ok-draft.draft.event c.moves.result.now c.shown.result.now s.for c.in_ok-draft.ensures.event_is
    (λ called. let stands = s.stood (s.tells.sound called) in
    (c.moves.ensures s.for (subst (λ b. ghosts.stands b s.for) (sym c.base-2.ensures) stands), c.shown.ensures s.for (subst (λ b. ghosts.stands b s.for) (sym c.base-3.ensures) stands))))) (
      step_fits c.in_ok-draft.draft c.in_ok-room.room c.in_ok-draft.ensures.moves c.in_ok-draft.ensures.bytes m e m'
          (λ none. c.in_ok-room.ensures run.for (subst (λ b. ghosts.stands b run.for) (sym c.base.ensures) (run.stood none))) (s.tells.step c.args.line),
      step_closes m e m' (s.tells.step c.args.line),
    )

pub note-requires-clause-fit : goal.note-requires-clause-fit
note-requires-clause-fit g c = (noted g c).0

pub note-requires-clause-within : goal.note-requires-clause-within
note-requires-clause-within g c = (noted g c).1

-- the event is a step of the core
made : (g : Over) (c : goal.After-note g) → MakesCoreStep g.T.HasGround c.args.daemon c.args.line c.args.event.now c.in_ok-came.came
    c.self.inside.lock (log_of c.self.inside.keeper) c.event.new.self (log_of c.note.new.self)
made g c =
    let ghosts = g.T.HasGround in
    let came = c.in_ok-came.came in
    let old = c.self.inside.lock in
    let new = c.event.new.self in
    let log = log_of c.self.inside.keeper in
    let log' = log_of c.note.new.self in
    let d = c.args.known.now in
    let found = subst (λ (k : LoggedLock g.row.T.Denot). daemon_of k.lock.roll c.args.daemon ≡ Some d) (sym c.self.view_is) c.requires.found in
    makes ghosts c.args.daemon c.args.event.now came c.args.line old new log log' c.in_ok-came.ensures.step
    (core_stands ghosts g.J.Origin.begins old c.self.inside.keeper c.self.invariant)
    (steps_known ghosts c.args.daemon c.args.event.now came c.args.line old new log log' c.in_ok-came.ensures.step
    d c.moves.result.now c.shown.result.now found
    (λ called v stands.
    (c.moves.ensures v (subst (λ b. ghosts.stands b v) (sym c.base-2.ensures) stands), c.shown.ensures v (subst (λ b. ghosts.stands b v) (sym c.base-3.ensures) stands)))
    (c.note.ensures.log
    ∙ (λ i. log_after (record {
      number = (c.number_of-number.ensures ∙ ap (λ r. number_of r d) c.roll.ensures) i;
      waited = c.looks_again-waited.ensures i;
      left = (c.leaves_now-left.ensures ∙ ap (λ r. has_left r d.id && not d.left) c.roll-3.ensures) i;
    }) (c.in_ok-reserve.ensures.same i)
    (made_with c.args.daemon (c.in_ok-draft.ensures.event_is i) came (c.moment-begun.ensures i) (c.moment-done.ensures i) c.args.line c.moves.result.now c.shown.result.now))))

pub returns-clause-makes : goal.returns-clause-makes
returns-clause-makes g c =
    subst (λ (k : LoggedLock g.row.T.Denot). MakesCoreStep g.T.HasGround c.args.daemon c.args.line c.args.event.now c.in_ok-came.came
    k.lock k.log c.event.new.self (log_of c.note.new.self)) c.self.view_is (made g c)

pub invariant_of-self : goal.invariant_of-self
invariant_of-self g c =
    core_same g.T.HasGround g.J.Origin.begins c.self.inside.lock c.self.inside.keeper c.self.invariant c.reserve.new.self c.reserve.ensures.same c.reserve.ensures.stays

pub invariant_of-self-in_err-came : goal.invariant_of-self-in_err-came
invariant_of-self-in_err-came g c =
    subst (λ (l : Locked g.row.T.Denot). IsCore g.T.HasGround g.J.Origin.begins l c.reserve.new.self) (sym c.in_err-came.ensures.err)
    (core_same g.T.HasGround g.J.Origin.begins c.self.inside.lock c.self.inside.keeper c.self.invariant c.reserve.new.self c.in_ok-reserve.ensures.same c.in_ok-reserve.ensures.stays)

pub invariant_of-self-2 : goal.invariant_of-self-2
invariant_of-self-2 g c =
    let many = ap length c.daemons.ensures ∙ ap (λ (r : Roll). length r.daemons) c.roll-2.ensures in
    let had = c.in_ok-reserve.ensures.leaves in
    let adds = c.note.ensures.room in
    core_after g.T.HasGround g.J.Origin.begins c.self.inside.lock c.self.inside.keeper c.self.invariant c.event.new.self
    c.args.daemon c.args.line c.args.event.now c.note.new.self c.in_ok-came.came (made g c)
    (λ same. room_for_all _ c.note.new.self (same ∙ sym many) (record {
      journal = omega (arith, had, adds.len, adds.capacity);
      said = c.note.ensures.spacious (c.in_ok-reserve.ensures.stays _ c.self.invariant.room).said;
    }))
    c.note.ensures.apart
