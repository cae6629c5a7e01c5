-- What is noted of a leave.
use Rattle.std.proofs.Common.{◌≡◌, ◌∙◌, ◌≤◌, ◌+◌, ℕ, [], Option, None, Some, IsSome, MatchOption, refl, sym, subst, arith}
use Rattle.std.specs.Prelude.{⊤}
use Rattle.sdr_model.specs.declared.answer.Close.{Close}
use Rattle.sdr_model.specs.declared.event.Event.{Event}
use Rattle.sdr_model.specs.declared.event.Event.TheVariants as events
use Rattle.sdr_model.specs.declared.event.Leave.{Leave}
use Rattle.sdr_machine.specs.Core.{Under, closed_by, log_after, under, what_of}
use Rattle.sdr_machine.specs.Crash.{commits_by}
use Rattle.sdr_machine.specs.Machine.{Machine, Made, MachineStep}
use Rattle.sdr_machine.specs.Roll.{daemon_of}
use Rattle.sdr_machine.specs.Serving.{Acts, Locked, IsInSomeState, MakesMachineStep, machine_at, made_by, made_with}
use Rattle.sdr_machine.specs.declared.came.Came.{Came}
use Rattle.sdr_machine.specs.declared.daemon.Daemon.{Daemon}
use Rattle.sdr_machine.specs.declared.has_ground.HasGround.{Ghosts}
use Rattle.sdr_core.proofs.CoreLemmas.{core_after, core_spoken, core_stands}
use Rattle.sdr_core.proofs.LeaveLemmas.{LeaveIs, leave_entries, leave_is, leave_quiet}
use Rattle.sdr_core.proofs.RunLemmas.{made_quiet, makes, steps_leave}
use Rattle.sdr_core.specs.CoreFacts.{IsCore}
use Rattle.sdr_core.specs.CoreKept.{RunStart, MakesCoreStep}
use Rattle.sdr_core.specs.Keeping.{AreApart, AreSpacious, spoken_of, works_of}
use Rattle.sdr_core.specs.Logging.{AddsEntries, ClosesKept, HasRoomFor, PassesUnlessClosing, entries_of, leaves_ahead, log_of}
use Rattle.sdr_core.specs.Noting.{made_noted, under_of}
use Rattle.sdr_core.specs.declared.keeper.Keeper.{Keeper}
use Rattle.sdr_core.specs.declared.noted.Noted.{Noted}

module _ {T : Type 0} (g : Ghosts T) (b : RunStart) (daemon line : ℕ) (leave : Leave) (a : Came) (old new : Locked T) (keeper : Keeper) (d : Daemon)
    (is : IsCore g b old keeper) (found : daemon_of old.roll daemon ≡ Some d)
    (acts : Acts g (commits_by old.roll daemon (events.Leaves leave)) MachineStep daemon (events.Leaves leave) a old new) where
  abbrev event : Event
  event = events.Leaves leave

  abbrev pub stood : IsInSomeState g.stands new (MakesMachineStep g MachineStep old new daemon (events.Leaves leave) a is.run.for)
  stood = acts.leads.each is.run.for is.run.stood

  abbrev pub made : Made
  made = made_by daemon (events.Leaves leave) a (g.moment old.base) (g.moment new.base) line stood.for

  abbrev pub before : Machine
  before = machine_at old.roll is.run.for

  abbrev pub after : Machine
  after = machine_at new.roll stood.for

  leaves : LeaveIs before made after d
  leaves = leave_is before made after leave refl found (stood.tells.step line)

  -- what it closes is kept
  pub leave_kept : ClosesKept keeper daemon a.answer
  leave_kept = by (closed_by a.answer) refl
    where
      by : (o : Option Close) → closed_by a.answer ≡ o → MatchOption o ⊤ (λ close. IsSome (spoken_of keeper.works.items daemon))
      by None unclosed = tt
      by (Some close) closed = let c = leaves.closes close closed in core_spoken g b old keeper is c.0 daemon d c.1 found c.2 c.3

  -- it stands in no transaction, or closes one
  pub leave_outside : PassesUnlessClosing (events.Leaves leave) a.answer
  leave_outside = leaves.outside

  module _ (n : Noted) (same : made_noted n event [] [] ≡ made_with daemon event a (g.moment old.base) (g.moment new.base) line [] [])
      (u : under_of n.under ≡ under old.roll d new.roll event) where
    fits : entries_of (what_of (under_of n.under) (works_of keeper.works.items) (made_noted n event [] [])) + leaves_ahead new.roll.daemons ≤ leaves_ahead old.roll.daemons
    fits =
        let quiet = leave_quiet before made after leave refl (stood.tells.step line) in
        let is_made : made ≡ made_noted n event [] [] =
        sym (same ∙ made_quiet daemon event a (g.moment old.base) (g.moment new.base) line stood.for quiet.0 quiet.1) in
        subst (λ (e : Made). entries_of (what_of (under_of n.under) (works_of keeper.works.items) e) + leaves_ahead new.roll.daemons ≤ leaves_ahead old.roll.daemons) is_made
        (subst (λ (v : Under). entries_of (what_of v (works_of keeper.works.items) made) + leaves_ahead new.roll.daemons ≤ leaves_ahead old.roll.daemons) (sym u)
        (leave_entries before made after leave d (works_of keeper.works.items) refl found leaves))

    -- there is room for its entry
    pub leave_room : HasRoomFor (entries_of (what_of (under_of n.under) (works_of keeper.works.items) (made_noted n event [] []))) keeper
    leave_room = let all = is.room.journal in record { journal = omega (arith, fits); said = is.room.said }

    -- it is a step of the core, after which there is room for all leaves that follow
    module _ (keeper' : Keeper) (log : log_of keeper' ≡ log_after (under_of n.under) (log_of keeper) (made_noted n event [] [])) where
      pub leave_makes : MakesCoreStep g daemon line (events.Leaves leave) a old (log_of keeper) new (log_of keeper')
      leave_makes =
          makes g daemon event a line old new (log_of keeper) (log_of keeper') acts (core_stands g b old keeper is)
          (steps_leave g daemon event a line old new (log_of keeper) (log_of keeper') acts leave d refl found
          (log ∙ (λ i. log_after (u i) (log_of keeper) (same i))))

      pub leave_after : AddsEntries (what_of (under_of n.under) (works_of keeper.works.items) (made_noted n event [] [])) keeper.journal keeper'.journal
          → AreSpacious keeper'.works.items → AreApart (works_of keeper'.works.items) → IsCore g b new keeper'
      leave_after adds spacious apart =
          let all = is.room.journal in
          let len = adds.len in
          let capacity = adds.capacity in
          core_after g b old keeper is new daemon line event keeper' a leave_makes (λ _. record { journal = omega (arith, fits); said = spacious }) apart
