-- Which events are answered that the disk had failed before.
use Rattle.std.proofs.Common.{◌≡◌, ◌∙◌, ◌⊎◌, ◌||◌, ◌==◌, ◌&&◌, ℕ, not, Bool, true, false, true≢false, Option, None, Some, is_none, refl, sym, ap, inl, inr}
use Rattle.std.specs.Prelude.{is_some}
use Rattle.sdr_model.specs.AccountSteps.{pending_of}
use Rattle.sdr_model.specs.declared.answer.Answer.{Answer}
use Rattle.sdr_model.specs.declared.event.Event.{Event}
use Rattle.sdr_model.specs.declared.event.Event.TheVariants as events
use Rattle.sdr_machine.proofs.StepLemmas.{from_option, from_test}
use Rattle.sdr_machine.specs.Core.{is_failed, is_passed_over}
use Rattle.sdr_machine.specs.Crash.{is_sound}
use Rattle.sdr_machine.specs.Machine.{Closes, Comes, Enters, FaultsWithin, Goes, Holds, Looks, Machine, Made, MachineStep, OnTurn, Proceeds, StepsOf, is_outside}
use Rattle.sdr_machine.specs.Roll.{Roll, daemon_of, is_stalled, served_number, waits_for, with_drawn}
use Rattle.sdr_machine.specs.Serving.{machine_at, made_by}
use Rattle.sdr_machine.specs.Transaction.{IsAnswered, is_closing, is_opening, transaction_of}
use Rattle.sdr_machine.specs.declared.came.Came.{Came}
use Rattle.sdr_machine.specs.declared.daemon.Daemon.{Daemon}
use Rattle.sdr_machine.specs.declared.daemon.Holding.{Holding}
use Rattle.sdr_machine.specs.declared.has_ground.HasGround.{Ghosts}
use Rattle.law_runs.proofs.TransactLemmas.{transacts_within}
use Rattle.sdr_core.specs.CoreKept.{KeepsSafe, LoggedLock, RunStart, KeepsRun, StepsCore}

or_false : (a b : Bool) → (a || b) ≡ false → b ≡ false
or_false true b e = absurd (true≢false e)
or_false false b e = e

module _ (m : Machine) (e : Made) (m' : Machine) where
  -- the event isn't answered so
  abbrev GoesWell : Type 0
  GoesWell = is_failed e.said.answer ≡ false

  told_well : (answer : Answer) → IsAnswered e.said answer → is_failed answer ≡ false → GoesWell
  told_well answer told well = ap is_failed told.answer ∙ well

  goes_well : (answer : Answer) (next : Machine) → Goes e m' answer next → is_failed answer ≡ false → GoesWell
  goes_well answer next goes well = told_well answer goes.told well

  looks_well : (d : Daemon) (ticket : ℕ) (roll : Roll) → Looks m d e ticket roll m' → GoesWell
  looks_well d ticket roll (inr faults) = told_well _ faults.told refl
  looks_well d ticket roll (inl looks) =
      from_option (pending_of m.before.world ticket) looks (λ _ goes. goes_well _ _ goes refl)
      (λ p _ seen. from_test p.ticket.granted seen (λ _ goes. goes_well _ _ goes refl)
      (λ _ waits. from_test (waits_for d ticket && is_stalled m.roll m.before.world) waits (λ _ goes. goes_well _ _ goes refl)
      (λ _ goes. goes_well _ _ goes refl)))

  comes_well : (d : Daemon) (event : Event) → Comes m d event e m' → GoesWell
  comes_well d events.Request goes = goes_well _ _ goes refl
  comes_well d events.Begin goes = goes_well _ _ goes refl
  comes_well d (events.Look ticket) comes =
      from_test (served_number m.roll == 0) comes (λ _ looks. looks_well d ticket (with_drawn m.roll) looks) (λ _ goes. goes_well _ _ goes refl)
  comes_well d (events.Leaves leave) comes =
      from_test (served_number m.roll == 0) comes (λ _ goes. goes_well _ _ goes refl) (λ _ goes. goes_well _ _ goes refl)
  comes_well d event goes = goes_well _ _ goes refl

  closes_well : (d : Daemon) (h : Holding) → Closes m d h e m' → GoesWell
  closes_well d h closes = told_well _ closes.closes.told refl

  faults_well : (d : Daemon) (h : Holding) (event : Event) → FaultsWithin m d h event e m' → GoesWell
  faults_well d h event faults = told_well _ faults.faults.told refl

  proceeds_well : (d : Daemon) (h : Holding) (event : Event) → Proceeds m d h event e m' → GoesWell
  proceeds_well d h event proceeds =
      from_test (is_closing (transaction_of h m.now) event) proceeds (λ _ closes. closes_well d h closes)
      (λ _ goes. or_false (is_passed_over event e.said.answer) (is_failed e.said.answer) (transacts_within (transaction_of h m.now) event e.said goes.after goes.transacts).inside)

  turn_well : (d : Daemon) (h : Holding) (event : Event) → OnTurn m d h event e m' → GoesWell
  turn_well d h event turn =
      from_test (is_opening (transaction_of h m.now) event) turn (λ _ goes. goes_well _ _ goes refl) (λ _ rest. by rest)
    where
      by : Proceeds m d h event e m' ⊎ FaultsWithin m d h event e m' → GoesWell
      by (inl proceeds) = proceeds_well d h event proceeds
      by (inr faults) = faults_well d h event faults

  enters_well : (d : Daemon) (h : Holding) (event : Event) → Enters m d h event e m' → GoesWell
  enters_well d h event enters =
      from_test (is_outside h event) enters (λ _ goes. goes_well _ _ goes refl)
      (λ _ rest. from_test (served_number m.roll == h.number) rest (λ _ turn. turn_well d h event turn) (λ _ goes. goes_well _ _ goes refl))

  holds_well : (d : Daemon) (h : Holding) (event : Event) → Holds m d h event e m' → GoesWell
  holds_well d h events.Request goes = goes_well _ _ goes refl
  holds_well d h (events.Look ticket) looks =
      from_test (h.nesting.depth == 0) looks
      (λ _ rest. from_test (served_number m.roll == h.number) rest (λ _ looks. looks_well d ticket m.roll looks) (λ _ goes. goes_well _ _ goes refl))
      (λ _ goes. goes_well _ _ goes refl)
  holds_well d h (events.Leaves leave) leaves =
      from_test (served_number m.roll == h.number) leaves
      (λ _ departs. from_test (h.nesting.depth == 0) departs (λ _ goes. goes_well _ _ goes refl) (λ _ rest. by rest))
      (λ _ goes. goes_well _ _ goes refl)
    where
      by : Closes m d h e m' ⊎ FaultsWithin m d h (events.Leaves leave) e m' → GoesWell
      by (inl closes) = closes_well d h closes
      by (inr faults) = faults_well d h (events.Leaves leave) faults
  holds_well d h events.Begin enters = enters_well d h events.Begin enters
  holds_well d h (events.Say call) enters = enters_well d h (events.Say call) enters
  holds_well d h events.End enters = enters_well d h events.End enters
  holds_well d h events.Cancel enters = enters_well d h events.Cancel enters
  holds_well d h events.Exit enters = enters_well d h events.Exit enters

  -- an event is answered so just where the roll has failed
  pub step_failed : MachineStep m e m' → is_failed e.said.answer ≡ is_some m.roll.failed
  step_failed step =
      from_option m.roll.failed step (λ none steps. well steps ∙ sym (ap is_some none))
      (λ moment broken goes. ap is_failed goes.told.answer ∙ sym (ap is_some broken))
    where
      well : StepsOf m e m' → GoesWell
      well steps =
          from_option (daemon_of m.roll e.daemon) steps (λ _ goes. goes_well _ _ goes refl)
          (λ d _ performs. from_test d.left performs (λ _ goes. goes_well _ _ goes refl)
          (λ _ rest. from_option d.holds rest (λ _ comes. comes_well d e.said.event comes) (λ h _ holds. holds_well d h e.said.event holds)))

some_or_none : (o : Option ℕ) → is_some o ≡ not (is_none o)
some_or_none None = refl
some_or_none (Some moment) = refl

-- The roll has failed just where the journal tells of a disk that failed.
pub roll_unsound : {T : Type 0} (g : Ghosts T) (b : RunStart) (k : LoggedLock T) → KeepsSafe g b k.log.journal k.lock.roll.failed k.lock.base
    → is_some k.lock.roll.failed ≡ not (is_sound k.log.journal)
roll_unsound g b k safe = some_or_none k.lock.roll.failed ∙ ap not (sym safe.sound)

-- An event is answered so just where the journal tells of one.
pub answers_failed : {T : Type 0} (g : Ghosts T) (b : RunStart) (daemon line : ℕ) (event : Event) (a : Came) (old new : LoggedLock T) → KeepsRun g b old
    → KeepsSafe g b old.log.journal old.lock.roll.failed old.lock.base → StepsCore g daemon line event a old new
    → is_failed a.answer ≡ not (is_sound old.log.journal)
answers_failed g b daemon line event a old new run safe steps =
    let s = steps.each run.for run.stood in
    step_failed (machine_at old.lock.roll run.for) (made_by daemon event a (g.moment old.lock.base) (g.moment new.lock.base) line s.for) s.tells.next s.tells.step
    ∙ roll_unsound g b old safe
