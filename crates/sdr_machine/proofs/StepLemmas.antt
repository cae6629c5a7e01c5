-- What a step of the machine may be.
use Rattle.std.proofs.Common.{◌≡◌, ◌≤◌, ◌⊎◌, ◌∙◌, ◌==◌, ◌+◌, ◌&&◌, ℕ, [], Bool, true, false, Option, None, Some, nat_le, if◌then◌else◌, arith, MatchBool, MatchOption, refl, sym, ap, subst, inl, inr}
use Rattle.std.specs.Option.{option_map_or}
use Rattle.sdr_base.specs.declared.refusal.Reason.TheVariants as reasons
use Rattle.sdr_base.specs.declared.refusal.Refusal.TheVariants as refusals
use Rattle.sdr_model.specs.AccountSteps.{pending_of}
use Rattle.sdr_model.specs.declared.answer.Answer.{Answer}
use Rattle.sdr_model.specs.declared.answer.Answer.TheVariants as answers
use Rattle.sdr_model.specs.declared.answer.Close.{Close}
use Rattle.sdr_model.specs.declared.answer.Reply.TheVariants as replies
use Rattle.sdr_model.specs.declared.call.Call.{Call}
use Rattle.sdr_model.specs.declared.event.Event.{Event}
use Rattle.sdr_model.specs.declared.event.Event.TheVariants as events
use Rattle.sdr_machine.specs.Ground.{HasHeap}
use Rattle.sdr_machine.specs.Machine.{Machine, Made, MachineStep, StepsOf, Closes, Comes, Enters, Faults, FaultsWithin, Goes, Holds, Looks, OnTurn, GoesOnIn, is_outside, roll_acting, roll_coming, roll_failed, roll_holding}
use Rattle.sdr_machine.specs.Nesting.{comes_to, deepened, deepest, doomed_for}
use Rattle.sdr_machine.specs.Roll.{Roll, after_leave, daemon_of, is_stalled, served_number, waits_for, with_daemon, with_drawn, with_number}
use Rattle.sdr_machine.specs.Transaction.{Replies, OpenTransaction, Transacts, is_closing, is_opening, state_left, transaction_of}
use Rattle.sdr_machine.specs.declared.daemon.Daemon.{Daemon}
use Rattle.sdr_machine.specs.declared.daemon.Holding.{Holding}
use Rattle.sdr_machine.specs.declared.nesting.Nesting.{Nesting}
use Rattle.sdr_machine.proofs.LockLemmas.{tells_media}

-- what follows from both sides of a test, which is known there
pub from_test : {P Q R : Type 0} (b : Bool) → MatchBool b P Q → (b ≡ true → P → R) → (b ≡ false → Q → R) → R
from_test true h f g = f refl h
from_test false h f g = g refl h

-- what follows from both sides of an option, which is known there
pub from_option : {T P R : Type 0} {Q : T → Type 0} (o : Option T) → MatchOption o P Q → (o ≡ None → P → R) → ((x : T) → o ≡ Some x → Q x → R) → R
from_option None h f g = f refl h
from_option (Some x) h f g = g x refl h

-- the daemon of a number is served in a transaction that isn't doomed
pub record IsServed (r : Roll) (id : ℕ) : Type 0 where
  pub daemon : Daemon
  pub holding : Holding
  pub found : daemon_of r id ≡ Some daemon
  pub stays : daemon.left ≡ false
  pub holds : daemon.holds ≡ Some holding
  pub inside : (holding.nesting.depth == 0) ≡ false
  pub served : (served_number r == holding.number) ≡ true
  pub undoomed : holding.nesting.doom ≡ None

-- the event was answered with no call, and tells nothing of media
pub record IsQuiet (e : Made) : Type 0 where
  pub moves : e.said.moves ≡ []
  pub bytes : e.said.bytes ≡ []
  pub untold : tells_media e.said.answer ≡ false

-- a call was made, and answered by a step
pub record IsCalled (m : Machine) (e : Made) (m' : Machine) : Type 0 where
  pub call : Call
  pub event : e.said.event ≡ events.Say call
  pub served : IsServed m.roll e.daemon
  pub after : OpenTransaction
  pub replies : Replies (transaction_of served.holding m.now) call e.said after
  pub before : m'.before ≡ m.before
  pub now : m'.now ≡ after.state

-- A step leaves the states, or is a call, or closes the transaction, or the disk fails.
pub data Kind (m : Machine) (e : Made) (m' : Machine) : Type 0 where
  stays : IsQuiet e → m'.before ≡ m.before → m'.now ≡ m.now → Kind m e m'
  called : IsCalled m e m' → Kind m e m'
  closed : (close : Close) → IsQuiet e → m'.before ≡ state_left close m.before m.now → m'.now ≡ state_left close m.before m.now → Kind m e m'
  failed : IsQuiet e → HasHeap m.before.base → m'.before ≡ m.before → m'.now ≡ m.before → Kind m e m'

-- what a step is, in which one number is drawn at most
pub record StepIs (m : Machine) (e : Made) (m' : Machine) : Type 0 where
  pub drawn : m'.roll.drawn ≤ m.roll.drawn + 1
  pub sound : ¬ HasHeap m.before.base → m.roll.failed ≡ None → m'.roll.failed ≡ None
  pub kind : Kind m e m'

untold_deepened : (n : Nesting) → tells_media (deepened n).answer ≡ false
untold_deepened n = by_depth (nat_le deepest n.depth)
  where
    by_depth : (b : Bool) → tells_media (if b then record { answer = answers.Reply (replies.Refused refusals.TooDeep); after = doomed_for (reasons.Refused 23) n } else comes_to n (n.depth + 1)).answer ≡ false
    by_depth true = refl
    by_depth false = refl

module _ (m : Machine) (e : Made) (m' : Machine) where
  goes_quiet : (answer : Answer) (next : Machine) → Goes e m' answer next → tells_media answer ≡ false → IsQuiet e
  goes_quiet answer next goes untold = record { moves = goes.told.moves; bytes = goes.told.bytes; untold = ap tells_media goes.told.answer ∙ untold }

  -- the states stay
  quiet : (answer : Answer) (next : Machine) → Goes e m' answer next → tells_media answer ≡ false
      → next.roll.drawn ≤ m.roll.drawn + 1 → (m.roll.failed ≡ None → next.roll.failed ≡ None) → next.before ≡ m.before → next.now ≡ m.now → StepIs m e m'
  quiet answer next goes untold drawn sound before now = record {
    drawn = subst (λ (n : Machine). n.roll.drawn ≤ m.roll.drawn + 1) (sym goes.after) drawn;
    sound = λ _ none. ap (λ (n : Machine). n.roll.failed) goes.after ∙ sound none;
    kind = Kind.stays (goes_quiet answer next goes untold) (ap (λ (n : Machine). n.before) goes.after ∙ before) (ap (λ (n : Machine). n.now) goes.after ∙ now);
  }

  kind_faults : (roll : Roll) → roll.drawn ≤ m.roll.drawn + 1 → Faults m e roll m' → StepIs m e m'
  kind_faults roll drawn faults = record {
    drawn = subst (λ (n : Machine). n.roll.drawn ≤ m.roll.drawn + 1) (sym faults.after) drawn;
    sound = λ no_heap _. absurd (no_heap faults.heap);
    kind = Kind.failed (record { moves = faults.told.moves; bytes = faults.told.bytes; untold = ap tells_media faults.told.answer }) faults.heap
        (ap (λ (n : Machine). n.before) faults.after) (ap (λ (n : Machine). n.now) faults.after);
  }

  kind_looks : (d : Daemon) (ticket : ℕ) (roll : Roll) → roll.drawn ≤ m.roll.drawn + 1 → (m.roll.failed ≡ None → roll.failed ≡ None) → Looks m d e ticket roll m' → StepIs m e m'
  kind_looks d ticket roll drawn sound (inr faults) = kind_faults _ drawn faults
  kind_looks d ticket roll drawn sound (inl looks) =
      from_option (pending_of m.before.world ticket) looks (λ _ goes. quiet _ _ goes refl drawn (λ none. sound none) refl refl)
      (λ p _ seen. from_test p.ticket.granted seen (λ _ goes. quiet _ _ goes refl drawn (λ none. sound none) refl refl)
      (λ _ waits. from_test (waits_for d ticket && is_stalled m.roll m.before.world) waits
      (λ _ goes. quiet _ _ goes refl drawn (λ none. sound none) refl refl) (λ _ goes. quiet _ _ goes refl drawn (λ none. sound none) refl refl)))

  kind_comes : (d : Daemon) (event : Event) → Comes m d event e m' → StepIs m e m'
  kind_comes d events.Request goes = quiet _ _ goes refl (omega arith) (λ none. none) refl refl
  kind_comes d events.Begin goes = quiet _ _ goes refl (omega arith) (λ none. none) refl refl
  kind_comes d (events.Look ticket) comes =
      from_test (served_number m.roll == 0) comes (λ _ looks. kind_looks d ticket (with_drawn m.roll) (omega arith) (λ none. none) looks)
      (λ _ goes. quiet _ _ goes refl (omega arith) (λ none. none) refl refl)
  kind_comes d (events.Leaves leave) comes =
      from_test (served_number m.roll == 0) comes (λ _ goes. quiet _ _ goes refl (omega arith) (λ none. none) refl refl)
      (λ _ goes. quiet _ _ goes refl (omega arith) (λ none. none) refl refl)
  kind_comes d event goes = quiet _ _ goes refl (omega arith) (λ none. none) refl refl

  kind_closes : (d : Daemon) (h : Holding) → Closes m d h e m' → StepIs m e m'
  kind_closes d h closes = record {
    drawn = subst (λ (n : Machine). n.roll.drawn ≤ m.roll.drawn + 1) (sym closes.after) (omega arith);
    sound = λ _ none. ap (λ (n : Machine). n.roll.failed) closes.after ∙ none;
    kind = Kind.closed closes.close
        (record { moves = closes.closes.told.moves; bytes = closes.closes.told.bytes; untold = ap tells_media closes.closes.told.answer })
        (ap (λ (n : Machine). n.before) closes.after ∙ closes.closes.left) (ap (λ (n : Machine). n.now) closes.after ∙ closes.closes.left);
  }

  kind_ends : (d : Daemon) (h : Holding) (event : Event) → Closes m d h e m' ⊎ FaultsWithin m d h event e m' → StepIs m e m'
  kind_ends d h event (inl closes) = kind_closes d h closes
  kind_ends d h event (inr faults) = kind_faults _ (omega arith) faults.faults

  -- an inner event, or another that leaves the state
  works_quiet : (d : Daemon) (h : Holding) (event : Event) (works : GoesOnIn m d h event e m') → IsQuiet e → works.after.state ≡ m.now → StepIs m e m'
  works_quiet d h event works told now = record {
    drawn = subst (λ (n : Machine). n.roll.drawn ≤ m.roll.drawn + 1) (sym works.others) (omega arith);
    sound = λ _ none. ap (λ (n : Machine). n.roll.failed) works.others ∙ none;
    kind = Kind.stays told (ap (λ (n : Machine). n.before) works.others) (ap (λ (n : Machine). n.now) works.others ∙ now);
  }

  kind_works : (d : Daemon) (h : Holding) (event : Event) → e.said.event ≡ event → daemon_of m.roll e.daemon ≡ Some d → d.left ≡ false → d.holds ≡ Some h
      → (h.nesting.depth == 0) ≡ false → (served_number m.roll == h.number) ≡ true
      → (works : GoesOnIn m d h event e m') → Transacts (transaction_of h m.now) event e.said works.after →
      StepIs m e m'
  kind_works d h events.Request is found left holds inside served works t = absurd t
  kind_works d h events.Begin is found left holds inside served works t =
      works_quiet d h _ works (record { moves = t.told.moves; bytes = t.told.bytes; untold = ap tells_media t.told.answer ∙ untold_deepened h.nesting })
      (ap (λ (t : OpenTransaction). t.state) t.after)
  kind_works d h (events.Say call) is found left holds inside served works t =
      from_option h.nesting.doom t
      (λ undoomed replies. record {
        drawn = subst (λ (n : Machine). n.roll.drawn ≤ m.roll.drawn + 1) (sym works.others) (omega arith);
        sound = λ _ none. ap (λ (n : Machine). n.roll.failed) works.others ∙ none;
        kind = Kind.called (record {
          call = call;
          event = is;
          served = record { daemon = d; holding = h; found = found; stays = left; holds = holds; inside = inside; served = served; undoomed = undoomed };
          after = works.after;
          replies = replies;
          before = ap (λ (n : Machine). n.before) works.others;
          now = ap (λ (n : Machine). n.now) works.others;
        });
      })
      (λ reason _ becomes. works_quiet d h _ works (record { moves = becomes.told.moves; bytes = becomes.told.bytes; untold = ap tells_media becomes.told.answer })
      (ap (λ (t : OpenTransaction). t.state) becomes.after))
  kind_works d h events.End is found left holds inside served works t =
      works_quiet d h _ works (record { moves = t.told.moves; bytes = t.told.bytes; untold = ap tells_media t.told.answer }) (ap (λ (t : OpenTransaction). t.state) t.after)
  kind_works d h events.Exit is found left holds inside served works t =
      works_quiet d h _ works (record { moves = t.told.moves; bytes = t.told.bytes; untold = ap tells_media t.told.answer }) (ap (λ (t : OpenTransaction). t.state) t.after)
  kind_works d h events.Cancel is found left holds inside served works t =
      works_quiet d h _ works (record { moves = t.told.moves; bytes = t.told.bytes; untold = ap tells_media t.told.answer }) (ap (λ (t : OpenTransaction). t.state) t.after)
  kind_works d h (events.Look ticket) is found left holds inside served works t =
      works_quiet d h _ works (record { moves = t.told.moves; bytes = t.told.bytes; untold = ap tells_media t.told.answer })
      (ap (λ (t : OpenTransaction). t.state) t.after)
  kind_works d h (events.Leaves leave) is found left holds inside served works t = absurd t

  kind_serves : (d : Daemon) (h : Holding) (event : Event) → e.said.event ≡ event → daemon_of m.roll e.daemon ≡ Some d → d.left ≡ false → d.holds ≡ Some h
      → is_outside h event ≡ false → (served_number m.roll == h.number) ≡ true → OnTurn m d h event e m' → StepIs m e m'
  kind_serves d h event is found left holds inside served serves =
      from_test (is_opening (transaction_of h m.now) event) serves (λ _ goes. quiet _ _ goes refl (omega arith) (λ none. none) refl refl)
      (λ no_opening either. proceeds no_opening either)
    where
      begun : (ev : Event) → is_outside h ev ≡ false → is_opening (transaction_of h m.now) ev ≡ false → (h.nesting.depth == 0) ≡ false
      begun events.Begin out first = first
      begun events.Request out first = out
      begun (events.Say call) out first = out
      begun events.End out first = out
      begun events.Cancel out first = out
      begun events.Exit out first = out
      begun (events.Look ticket) out first = out
      begun (events.Leaves leave) out first = out

      proceeds : is_opening (transaction_of h m.now) event ≡ false
          → MatchBool (is_closing (transaction_of h m.now) event) (Closes m d h e m') (GoesOnIn m d h event e m') ⊎ FaultsWithin m d h event e m' → StepIs m e m'
      proceeds no_opening (inr faults) = kind_faults _ (omega arith) faults.faults
      proceeds no_opening (inl goes_on) =
          from_test (is_closing (transaction_of h m.now) event) goes_on (λ _ closes. kind_closes d h closes)
          (λ _ works. kind_works d h event is found left holds (begun event inside no_opening) served works works.transacts)

  kind_enters : (d : Daemon) (h : Holding) (event : Event) → e.said.event ≡ event → daemon_of m.roll e.daemon ≡ Some d → d.left ≡ false → d.holds ≡ Some h
      → Enters m d h event e m' → StepIs m e m'
  kind_enters d h event is found left holds enters =
      from_test (is_outside h event) enters (λ _ goes. quiet _ _ goes refl (omega arith) (λ none. none) refl refl)
      (λ inside rest. from_test (served_number m.roll == h.number) rest
      (λ served serves. kind_serves d h event is found left holds inside served serves)
      (λ _ goes. quiet _ _ goes refl (omega arith) (λ none. none) refl refl))

  kind_holds : (d : Daemon) (h : Holding) (event : Event) → e.said.event ≡ event → daemon_of m.roll e.daemon ≡ Some d → d.left ≡ false → d.holds ≡ Some h
      → Holds m d h event e m' → StepIs m e m'
  kind_holds d h events.Request is found left holds goes = quiet _ _ goes refl (omega arith) (λ none. none) refl refl
  kind_holds d h (events.Look ticket) is found left holds looks =
      from_test (h.nesting.depth == 0) looks
      (λ _ rest. from_test (served_number m.roll == h.number) rest (λ _ looks. kind_looks d ticket m.roll (omega arith) (λ none. none) looks)
      (λ _ goes. quiet _ _ goes refl (omega arith) (λ none. none) refl refl))
      (λ _ goes. quiet _ _ goes refl (omega arith) (λ none. none) refl refl)
  kind_holds d h (events.Leaves leave) is found left holds leaves =
      from_test (served_number m.roll == h.number) leaves
      (λ _ departs. from_test (h.nesting.depth == 0) departs (λ _ goes. quiet _ _ goes refl (omega arith) (λ none. none) refl refl)
      (λ _ ends. kind_ends d h (events.Leaves leave) ends))
      (λ _ goes. quiet _ _ goes refl (omega arith) (λ none. none) refl refl)
  kind_holds d h event is found left holds enters = kind_enters d h event is found left holds enters

  kind_answers : StepsOf m e m' → StepIs m e m'
  kind_answers answered =
      from_option (daemon_of m.roll e.daemon) answered (λ _ goes. quiet _ _ goes refl (omega arith) (λ none. none) refl refl)
      (λ d found performs. from_test d.left performs (λ _ goes. quiet _ _ goes refl (omega arith) (λ none. none) refl refl)
      (λ left rest. from_option d.holds rest (λ _ comes. kind_comes d e.said.event comes)
      (λ h holds kept. kind_holds d h e.said.event refl found left holds kept)))

  -- one number at most is drawn where the disk has failed
  drawn_coming : (d : Daemon) (event : Event) → (roll_coming m.roll d event).drawn ≤ m.roll.drawn + 1
  drawn_coming d events.Request = omega arith
  drawn_coming d (events.Leaves leave) = by_served (served_number m.roll == 0)
    where
      by_served : (b : Bool) → (if b then with_daemon (with_drawn m.roll) (after_leave d) else with_number m.roll d 0).drawn ≤ m.roll.drawn + 1
      by_served true = omega arith
      by_served false = omega arith
  drawn_coming d event = omega arith

  drawn_holding : (d : Daemon) (h : Holding) (event : Event) → (roll_holding m.roll d h event).drawn ≤ m.roll.drawn + 1
  drawn_holding d h (events.Leaves leave) = by_served (served_number m.roll == h.number)
    where
      by_served : (b : Bool) → (if b then with_daemon m.roll (after_leave d) else m.roll).drawn ≤ m.roll.drawn + 1
      by_served true = omega arith
      by_served false = omega arith
  drawn_holding d h event = omega arith

  drawn_acting : (d : Daemon) (event : Event) → (roll_acting m.roll d event).drawn ≤ m.roll.drawn + 1
  drawn_acting d event = by_left d.left
    where
      by_holds : (o : Option Holding) → (option_map_or (λ (h : Holding). roll_holding m.roll d h event) o (roll_coming m.roll d event)).drawn ≤ m.roll.drawn + 1
      by_holds None = drawn_coming d event
      by_holds (Some h) = drawn_holding d h event

      by_left : (b : Bool) → (if b then m.roll else option_map_or (λ (h : Holding). roll_holding m.roll d h event) d.holds (roll_coming m.roll d event)).drawn ≤ m.roll.drawn + 1
      by_left true = omega arith
      by_left false = by_holds d.holds

  drawn_failed : (id : ℕ) (event : Event) → (roll_failed m.roll id event).drawn ≤ m.roll.drawn + 1
  drawn_failed id event = by_daemon (daemon_of m.roll id)
    where
      by_daemon : (o : Option Daemon) → (option_map_or (λ (d : Daemon). roll_acting m.roll d event) o m.roll).drawn ≤ m.roll.drawn + 1
      by_daemon None = omega arith
      by_daemon (Some d) = drawn_acting d event

  pub step_is : MachineStep m e m' → StepIs m e m'
  step_is step =
      from_option m.roll.failed step (λ _ answered. kind_answers answered)
      (λ moment some goes. quiet _ _ goes refl (drawn_failed e.daemon e.said.event) (λ none. absurd (some_is_none moment (sym some ∙ none))) refl refl)
    where
      some_is_none : (n : ℕ) → Some n ≡ None → ⊥
      some_is_none n e = cc
