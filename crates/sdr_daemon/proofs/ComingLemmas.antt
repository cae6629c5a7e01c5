-- What a begin, a look and a leave of a daemon without a number come to, where no other holds one.
use Rattle.std.proofs.Common.{◌≡◌, ◌∙◌, ◌==◌, ◌+◌, ◌&&◌, ◌||◌, ℕ, List, [], ◌∷◌, ◌++◌, Bool, true, false, true≢false, not, Option, None, Some, MatchBool, MatchOption, inl, inr, refl, sym, ap, subst}
use Rattle.std.specs.Option.{option_map_or}
use Rattle.std.specs.Prelude.{if◌then◌else◌}
use Rattle.sdr_machine.proofs.RollLemmas.{among, found_number, found_put, same_number, number_same}
use Rattle.sdr_base.specs.Media.{Told}
use Rattle.sdr_base.specs.declared.refusal.Refusal.TheVariants as refusals
use Rattle.sdr_machine.proofs.HolderLemmas.{none_least}
use Rattle.sdr_machine.proofs.StepLemmas.{from_option, from_test}
use Rattle.sdr_machine.specs.Core.{Core, CoreStep, Work, all_said, closed_by, entry_of, has_left, is_failed, is_passed_over, looks_again, under, was_outside, what_added, with_said, without_work}
use Rattle.sdr_machine.specs.Holders.{hold_none}
use Rattle.sdr_machine.specs.Machine.{StepsOf, Comes, Goes, Holds, Looks, Machine, Made, roll_acting, roll_coming, roll_failed, roll_holding, with_roll}
use Rattle.sdr_machine.specs.Nesting.{nested}
use Rattle.sdr_machine.specs.Roll.{Roll, when_done, after_leave, when_passed_over, after_wait, daemon_of, is_stalled, put_daemon, served_number, waits_for, with_daemon, with_drawn, with_number}
use Rattle.sdr_machine.specs.Transaction.{refused}
use Rattle.sdr_machine.specs.declared.daemon.Daemon.{Daemon}
use Rattle.sdr_machine.specs.declared.daemon.Holding.{Holding}
use Rattle.sdr_model.specs.AccountSteps.{pending_of}
use Rattle.sdr_model.specs.declared.answer.Answer.TheVariants as answers
use Rattle.sdr_model.specs.declared.answer.Answer.{Answer}
use Rattle.sdr_model.specs.declared.answer.Close.TheVariants as closes
use Rattle.sdr_model.specs.declared.answer.Reply.TheVariants as replies
use Rattle.sdr_model.specs.declared.event.Event.TheVariants as events
use Rattle.sdr_model.specs.declared.event.Event.{Event}
use Rattle.sdr_model.specs.declared.event.Leave.{Leave}
use Rattle.sdr_model.specs.declared.journal.What.TheVariants as whats
use Rattle.sdr_model.specs.declared.journal.What.{What}
use Rattle.sdr_daemon.proofs.EventLemmas.{all_first, closes_so, found_none, goes_on, machine_is, passes_by, performs}
use Rattle.sdr_daemon.specs.TurnEvents.{BeforeTurn, HasSaid, IsOver, IsOverWith, LooksSo, daemon_holding}
use Rattle.sdr_daemon.specs.Turns.{EndsLook}

waits_for_it : (o : Option ℕ) (ticket : ℕ) → option_map_or (λ t. t == ticket) o false ≡ true → Some ticket ≡ o
waits_for_it None ticket e = absurd (true≢false (sym e))
waits_for_it (Some t) ticket e = ap Some (sym (same_number t ticket e))

waits_for_no : (o : Option ℕ) (ticket : ℕ) → option_map_or (λ t. t == ticket) o false ≡ false → o ≡ Some ticket → ⊥
waits_for_no o ticket isnt is = true≢false (sym (number_same ticket ticket refl) ∙ ap (λ p. option_map_or (λ t. t == ticket) p false) (sym is) ∙ isnt)

-- a daemon that holds none, where no other does
module _ {told : Option Told} {c c' : Core} {e : Made} (step : CoreStep told c e c') {x : Daemon} (found : daemon_of c.machine.roll e.daemon ≡ Some x)
    (stays : x.left ≡ false) (free : hold_none c.machine.roll.daemons ≡ true) (unsaid : c.log.works ≡ []) where
  abbrev before_it : BeforeTurn
  before_it = record { roll = c.machine.roll; journal = c.log.journal; daemon = x }

  id_is : x.id ≡ e.daemon
  id_is = same_number x.id e.daemon (found_number c.machine.roll.daemons e.daemon x found)

  unheld : x.holds ≡ None
  unheld = found_none c.machine.roll.daemons e.daemon x free found

  unserved : (served_number c.machine.roll == 0) ≡ true
  unserved = number_same (served_number c.machine.roll) 0 (none_least c.machine.roll.daemons free)

  number_next : (under c.machine.roll x step.next.roll e.said.event).number ≡ c.machine.roll.drawn + 1
  number_next = ap (λ o. option_map_or (λ (h : Holding). h.number) o (c.machine.roll.drawn + 1)) unheld

  comes : c.machine.roll.failed ≡ None → Comes c.machine x e.said.event e step.next
  comes sound =
      subst (λ o. MatchOption o (Comes c.machine x e.said.event e step.next) (λ h. Holds c.machine x h e.said.event e step.next)) unheld (performs step found sound stays)

  -- it begins a transaction
  pub begins : c.machine.roll.failed ≡ None → e.said.event ≡ events.Begin
      → HasSaid before_it (e.said ∷ []) c'.machine.roll c'.log × (e.said.answer ≡ answers.Lock (c.machine.roll.drawn + 1))
  begins sound is =
      let goes = subst (λ ev. Comes c.machine x ev e step.next) is (comes sound) in
      let log =
      goes_on step found ((λ i. is_passed_over (is i) (goes.told.answer i) || is_failed (goes.told.answer i))) (ap closed_by goes.told.answer)
      (λ i. what_added (under c.machine.roll x step.next.roll e.said.event) (is i) e.said.answer) in (
        record {
          h = record { number = c.machine.roll.drawn + 1; nesting = nested 1 };
          number = refl;
          deep = refl;
          roll_is =
              ap (λ (m : Machine). m.roll) (machine_is step found ∙ goes.after)
              ∙ (λ i. let r : Roll = record { daemons = put_daemon c.machine.roll.daemons (daemon_holding before_it (record { number = c.machine.roll.drawn + 1; nesting = nested 1 })); drawn = c.machine.roll.drawn + 1; failed = sound i } in r);
          works = log.0 ∙ ap (λ works. with_said works e.daemon e.said) unsaid ∙ ap (λ id. let w : List Work = record { daemon = id; said = e.said ∷ [] } ∷ [] in w) (sym id_is);
          journal_is = log.1;
        },
        goes.told.answer,
      )

  -- an entry of it is added, as it goes on to another machine in which it has drawn a number
  added : (what : What) (after : Daemon) (roll : Roll) → c'.log.works ≡ c.log.works
      → c'.log.journal ≡ c.log.journal ++ entry_of (under c.machine.roll x step.next.roll e.said.event).number e what ∷ []
      → step.next.roll ≡ roll → roll.daemons ≡ put_daemon c.machine.roll.daemons after → roll.drawn ≡ c.machine.roll.drawn + 1
      → after.id ≡ x.id → after.holds ≡ None
      → IsOverWith before_it what after c'.machine.roll c'.log
  added what after roll works journal is daemons drawn id none = record {
    entry = entry_of (under c.machine.roll x step.next.roll e.said.event).number e what;
    next = record { number = number_next; daemon = sym id_is; what_is = refl };
    over = record {
      journal_is = journal;
      unsaid = works ∙ unsaid;
      daemons = ap (λ (m : Machine). m.roll.daemons) (machine_is step found) ∙ ap (λ (r : Roll). r.daemons) is ∙ daemons;
      drawn_is = ap (λ (m : Machine). m.roll.drawn) (machine_is step found) ∙ ap (λ (r : Roll). r.drawn) is ∙ drawn;
      id = id;
      unheld = none;
    };
  }

  -- no entry is
  none_added : (after : Daemon) (roll : Roll) → c'.log.works ≡ c.log.works → c'.log.journal ≡ c.log.journal ++ [] → step.next.roll ≡ roll
      → roll.daemons ≡ put_daemon c.machine.roll.daemons after → roll.drawn ≡ c.machine.roll.drawn + 1 → after.id ≡ x.id → after.holds ≡ None
      → IsOver before_it [] after (c.machine.roll.drawn + 1) c'.machine.roll c'.log
  none_added after roll works journal is daemons drawn id none = record {
    journal_is = journal;
    unsaid = works ∙ unsaid;
    daemons = ap (λ (m : Machine). m.roll.daemons) (machine_is step found) ∙ ap (λ (r : Roll). r.daemons) is ∙ daemons;
    drawn_is = ap (λ (m : Machine). m.roll.drawn) (machine_is step found) ∙ ap (λ (r : Roll). r.drawn) is ∙ drawn;
    id = id;
    unheld = none;
  }

  drawn_roll : Roll
  drawn_roll = with_drawn c.machine.roll

  outside_so : (event : Event) (answer : Answer) → e.said.event ≡ event → e.said.answer ≡ answer → (is_passed_over event answer || is_failed answer) ≡ true → was_outside e.said ≡ true
  outside_so event answer is told passed = (λ i. is_passed_over (is i) (told i) || is_failed (told i)) ∙ passed

  -- it looks at a ticket
  pub looks : c.machine.roll.failed ≡ None → (ticket : ℕ) → e.said.event ≡ events.Look ticket → LooksSo before_it c.machine.before ticket e.said c'.machine.roll c'.log
  looks sound ticket is =
      let at = subst (λ ev. Comes c.machine x ev e step.next) is (comes sound) in
      by (subst (λ b. MatchBool b (Looks c.machine x e ticket (with_drawn c.machine.roll) step.next)
      (Goes e step.next (refused (refusals.Suspended (served_number c.machine.roll) (c.machine.roll.drawn + 1))) (with_roll c.machine (with_number c.machine.roll x 0)))) unserved at)
    where
      else_is : (answer : Answer) → e.said.answer ≡ answer
          → what_added (under c.machine.roll x step.next.roll e.said.event) e.said.event e.said.answer ≡ what_added (under c.machine.roll x step.next.roll e.said.event) (events.Look ticket) answer
      else_is answer told i = what_added (under c.machine.roll x step.next.roll e.said.event) (is i) (told i)

      waited : (under c.machine.roll x step.next.roll e.said.event).waited ≡ waits_for x ticket
      waited i = looks_again x (is i)

      missing : Goes e step.next (refused (refusals.BadTicket ticket)) (with_roll c.machine (with_daemon (with_drawn c.machine.roll) (when_passed_over x))) → pending_of c.machine.before.world ticket ≡ None
          → LooksSo before_it c.machine.before ticket e.said c'.machine.roll c'.log
      missing goes none =
          let log =
          passes_by step found (outside_so (events.Look ticket) _ is goes.told.answer refl) (ap closed_by goes.told.answer) None (else_is _ goes.told.answer) in
          LooksSo.missing none goes.told.answer
          (none_added (when_passed_over x) _ log.0 log.1 (ap (λ (m : Machine). m.roll) goes.after) refl refl refl refl)

      ends : (what : What) (answer : Answer) → (e.said.answer ≡ answer → EndsLook ticket e.said what) → (answer ≡ answers.Waits → ⊥) → (answer ≡ refused (refusals.BadTicket ticket) → ⊥)
          → (is_passed_over (events.Look ticket) answer || is_failed answer) ≡ true → closed_by answer ≡ None
          → what_added (under c.machine.roll x step.next.roll e.said.event) (events.Look ticket) answer ≡ Some what
          → Goes e step.next answer (with_roll c.machine (with_daemon (with_drawn c.machine.roll) (when_done x)))
          → LooksSo before_it c.machine.before ticket e.said c'.machine.roll c'.log
      ends what answer so waits bad passed unclosed adds goes =
          let log =
          passes_by step found (outside_so (events.Look ticket) answer is goes.told.answer passed) (ap closed_by goes.told.answer ∙ unclosed) (Some what) (else_is answer goes.told.answer ∙ adds) in
          LooksSo.seen what (so goes.told.answer) (λ w. waits (sym goes.told.answer ∙ w)) (λ w. bad (sym goes.told.answer ∙ w))
          (added what (when_done x) _ log.0 log.1 (ap (λ (m : Machine). m.roll) goes.after) refl refl refl refl)

      waits : Goes e step.next answers.Waits (with_roll c.machine (with_daemon (with_drawn c.machine.roll) (after_wait x ticket))) → (b : Bool) → waits_for x ticket ≡ b
          → LooksSo before_it c.machine.before ticket e.said c'.machine.roll c'.log
      waits goes true before =
          let log =
          passes_by step found (outside_so (events.Look ticket) answers.Waits is goes.told.answer refl) (ap closed_by goes.told.answer) None
          (else_is answers.Waits goes.told.answer ∙ ap (λ b. if b then None else Some (whats.Waits ticket)) (waited ∙ before)) in
          LooksSo.again goes.told.answer (sym (waits_for_it x.waits ticket before))
          (none_added (after_wait x ticket) _ log.0 log.1 (ap (λ (m : Machine). m.roll) goes.after) refl refl refl refl)
      waits goes false before =
          let log =
          passes_by step found (outside_so (events.Look ticket) answers.Waits is goes.told.answer refl) (ap closed_by goes.told.answer) (Some (whats.Waits ticket))
          (else_is answers.Waits goes.told.answer ∙ ap (λ b. if b then None else Some (whats.Waits ticket)) (waited ∙ before)) in
          LooksSo.waits goes.told.answer (waits_for_no x.waits ticket before) (added (whats.Waits ticket) (after_wait x ticket) _ log.0 log.1 (ap (λ (m : Machine). m.roll) goes.after) refl refl refl refl)

      by : Looks c.machine x e ticket (with_drawn c.machine.roll) step.next → LooksSo before_it c.machine.before ticket e.said c'.machine.roll c'.log
      by (inl looks) =
          from_option (pending_of c.machine.before.world ticket) looks (λ none goes. missing goes none)
          (λ t there seen. from_test t.ticket.granted seen
          (λ granted goes. ends (whats.Awarded ticket) answers.Awarded (λ told. EndsLook.awarded told refl) (λ no. absurd cc) (λ no. absurd cc) refl refl refl goes)
          (λ waiting rest. from_test (waits_for x ticket && is_stalled c.machine.roll c.machine.before.world) rest
          (λ stalled goes. ends (whats.Stalled ticket) answers.Stalled (λ told. EndsLook.stalled told refl) (λ no. absurd cc) (λ no. absurd cc) refl refl refl goes)
          (λ _ goes. waits goes (waits_for x ticket) refl)))
      by (inr faults) =
          let inside : was_outside e.said ≡ false = (λ i. is_passed_over (is i) (faults.told.answer i) || is_failed (faults.told.answer i)) in
          let log = closes_so step found inside closes.Faulted (ap closed_by faults.told.answer) in
          let alone : all_said c.log.works e.daemon e.said ≡ e.said ∷ [] = ap (λ works. all_said works e.daemon e.said) unsaid ∙ all_first e.daemon e.said in
          let what : What = whats.Work (e.said ∷ []) closes.Faulted in
          LooksSo.seen what (EndsLook.failed faults.told.answer refl)
          (λ no. let n : answers.Reply replies.DiskFault ≡ answers.Waits = sym faults.told.answer ∙ no in absurd cc)
          (λ no. let n : answers.Reply replies.DiskFault ≡ refused (refusals.BadTicket ticket) = sym faults.told.answer ∙ no in absurd cc)
          (added what (when_done x) _ (log.0 ∙ ap (λ works. without_work works e.daemon) unsaid ∙ sym unsaid)
          (log.1 ∙ ap (λ said. c.log.journal ++ entry_of (under c.machine.roll x step.next.roll e.said.event).number e (whats.Work said closes.Faulted) ∷ []) alone)
          (ap (λ (m : Machine). m.roll) faults.after) refl refl refl refl)

  -- it leaves
  pub leaves : (leave : Leave) → e.said.event ≡ events.Leaves leave → IsOverWith before_it (whats.Leaves leave) (after_leave x) c'.machine.roll c'.log
  leaves leave is = by c.machine.roll.failed refl
    where
      gone : Roll
      gone = with_daemon (with_drawn c.machine.roll) (after_leave x)

      done : (answer : Answer) → e.said.answer ≡ answer → step.next.roll ≡ gone → (is_passed_over (events.Leaves leave) answer || is_failed answer) ≡ true → closed_by answer ≡ None
          → IsOverWith before_it (whats.Leaves leave) (after_leave x) c'.machine.roll c'.log
      done answer told roll passed unclosed =
          let here : among (after_leave x).id c.machine.roll.daemons ≡ Some x = ap (λ n. among n c.machine.roll.daemons) id_is ∙ found in
          let left : (has_left step.next.roll x.id && not x.left) ≡ true =
          (λ i. has_left (roll i) x.id && not (stays i)) ∙ ap (λ o. option_map_or (λ (d : Daemon). d.left) o false && true) (found_put c.machine.roll.daemons (after_leave x) x here) in
          let log =
          passes_by step found (outside_so (events.Leaves leave) answer is told passed) (ap closed_by told ∙ unclosed) (Some (whats.Leaves leave))
          ((λ i. what_added (under c.machine.roll x step.next.roll e.said.event) (is i) e.said.answer)
          ∙ ap (λ b. if b then Some (whats.Leaves leave) else None) left) in
          added (whats.Leaves leave) (after_leave x) gone log.0 log.1 roll refl refl refl refl

      by : (o : Option ℕ) → c.machine.roll.failed ≡ o → IsOverWith before_it (whats.Leaves leave) (after_leave x) c'.machine.roll c'.log
      by None sound =
          let at = subst (λ ev. Comes c.machine x ev e step.next) is (comes sound) in
          let goes =
          subst (λ b. MatchBool b (Goes e step.next (answers.Reply replies.Done) (with_roll c.machine gone))
          (Goes e step.next (refused (refusals.Suspended (served_number c.machine.roll) (c.machine.roll.drawn + 1))) (with_roll c.machine (with_number c.machine.roll x 0)))) unserved at in
          done (answers.Reply replies.Done) goes.told.answer (ap (λ (m : Machine). m.roll) goes.after) refl refl
      by (Some moment) broken =
          let goes =
          subst (λ o. MatchOption o (StepsOf c.machine e step.next)
          (λ moment. Goes e step.next (answers.Reply (replies.Failed moment)) (with_roll c.machine (roll_failed c.machine.roll e.daemon e.said.event)))) broken step.step in
          done (answers.Reply (replies.Failed moment)) goes.told.answer
          (ap (λ (m : Machine). m.roll) goes.after ∙ ap (λ o. option_map_or (λ (d : Daemon). roll_acting c.machine.roll d e.said.event) o c.machine.roll) found
          ∙ ap (roll_acting c.machine.roll x) is ∙ (λ i. if stays i then c.machine.roll else option_map_or (λ (h : Holding). roll_holding c.machine.roll x h (events.Leaves leave)) (unheld i) (roll_coming c.machine.roll x (events.Leaves leave)))
          ∙ ap (λ b. if b then gone else with_number c.machine.roll x 0) unserved)
          refl refl
