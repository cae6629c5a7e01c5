-- What a line and a leave of a daemon in its transaction come to, where no other daemon holds a number.
use Rattle.std.proofs.Common.{◌≡◌, ◌∙◌, ◌⊎◌, ◌==◌, ◌+◌, ◌||◌, List, [], ◌∷◌, ◌++◌, true, false, Option, None, Some, MatchBool, inl, inr, refl, sym, ap, subst}
use Rattle.sdr_machine.proofs.RollLemmas.{found_put, number_same}
use Rattle.law_runs.proofs.TransactLemmas.{asking_inside, closing_inside, transacts_open, transacts_within}
use Rattle.sdr_base.specs.Media.{Told}
use Rattle.sdr_base.specs.declared.refusal.Refusal.TheVariants as refusals
use Rattle.sdr_machine.proofs.StepLemmas.{from_test}
use Rattle.sdr_machine.specs.Core.{Core, CoreStep, Under, Work, all_said, closed_by, entry_of, is_failed, is_passed_over, under, was_outside, what_added, with_said, without_work}
use Rattle.sdr_machine.specs.Holders.{hold_none}
use Rattle.sdr_machine.specs.Machine.{Closes, Departs, Enters, FaultsWithin, Goes, Holds, is_of_work, IsSuspended, Looks, Machine, Made, BeginsUnder, Proceeds, OnTurn, with_roll}
use Rattle.sdr_machine.specs.Roll.{Roll, when_done, after_leave, at_nesting, daemon_of, put_daemon, served_number, with_daemon}
use Rattle.sdr_machine.specs.Transaction.{OpenTransaction, is_closing, refused, transaction_of}
use Rattle.sdr_machine.specs.declared.daemon.Daemon.{Daemon}
use Rattle.sdr_machine.specs.declared.nesting.Nesting.{Nesting}
use Rattle.sdr_model.specs.declared.answer.Answer.TheVariants as answers
use Rattle.sdr_model.specs.declared.answer.Close.TheVariants as closes
use Rattle.sdr_model.specs.declared.answer.Close.{Close}
use Rattle.sdr_model.specs.declared.answer.Reply.TheVariants as replies
use Rattle.sdr_model.specs.declared.event.Event.TheVariants as events
use Rattle.sdr_model.specs.declared.event.Event.{Event}
use Rattle.sdr_model.specs.declared.event.Leave.{Leave}
use Rattle.sdr_model.specs.declared.journal.Said.{Said}
use Rattle.sdr_model.specs.declared.journal.What.TheVariants as whats
use Rattle.sdr_daemon.proofs.EventLemmas.{all_alone, closes_so, deep_opening, deep_outside, goes_on, line_none, machine_is, none_alone, performs, put_put, said_alone, served_own}
use Rattle.sdr_daemon.specs.TurnEvents.{BeforeTurn, HasSaid, IsOverWith, SaysOn, daemon_holding}

-- a daemon in a transaction, where no other holds a number
module _ {told : Option Told} {c c' : Core} {e : Made} (step : CoreStep told c e c') (o : BeforeTurn) (said : List Said) (w : HasSaid o said c.machine.roll c.log)
    (foundo : daemon_of o.roll o.daemon.id ≡ Some o.daemon) (stays : o.daemon.left ≡ false) (free : hold_none o.roll.daemons ≡ true)
    (own : e.daemon ≡ o.daemon.id) where
  abbrev y : Daemon
  y = daemon_holding o w.h

  found : daemon_of c.machine.roll e.daemon ≡ Some y
  found = (λ i. daemon_of (w.roll_is i) (own i)) ∙ found_put o.roll.daemons y o.daemon foundo

  served : (served_number c.machine.roll == w.h.number) ≡ true
  served = number_same (served_number c.machine.roll) w.h.number (ap served_number w.roll_is ∙ served_own o.roll.daemons y o.daemon w.h free foundo refl)

  sound : c.machine.roll.failed ≡ None
  sound = ap (λ (r : Roll). r.failed) w.roll_is

  held : Holds c.machine y w.h e.said.event e step.next
  held = performs step found sound stays

  works_own : c.log.works ≡ record { daemon = e.daemon; said = said } ∷ []
  works_own = w.works ∙ ap (λ id. let l : List Work = record { daemon = id; said = said } ∷ [] in l) (sym own)

  -- it goes on, and the transaction comes to another nesting
  on : (n : Nesting) → was_outside e.said ≡ false → closed_by e.said.answer ≡ None
      → what_added (under c.machine.roll y step.next.roll e.said.event) e.said.event e.said.answer ≡ None
      → step.next.roll ≡ with_daemon c.machine.roll (at_nesting y w.h n) → (n.depth == 0) ≡ false → SaysOn o said e.said c'.machine.roll c'.log
  on n inside unclosed none roll deep =
      let log = goes_on step found inside unclosed none in
      SaysOn.on unclosed (record {
        h = record w.h { nesting = n };
        number = w.number;
        deep = deep;
        roll_is =
            ap (λ (m : Machine). m.roll) (machine_is step found) ∙ roll ∙ ap (λ (r : Roll). with_daemon r (at_nesting y w.h n)) w.roll_is
            ∙ ap (λ ds. let r : Roll = record { daemons = ds; drawn = o.roll.drawn + 1; failed = None } in r) (put_put o.roll.daemons y (at_nesting y w.h n) refl);
        works =
            log.0 ∙ ap (λ works. with_said works e.daemon e.said) works_own ∙ said_alone e.daemon said e.said
            ∙ ap (λ id. let l : List Work = record { daemon = id; said = said ++ e.said ∷ [] } ∷ [] in l) own;
        journal_is = log.1 ∙ w.journal_is;
      })

  -- it closes
  off : (close : Close) → was_outside e.said ≡ false → closed_by e.said.answer ≡ Some close → step.next.roll.daemons ≡ put_daemon c.machine.roll.daemons (when_done y)
      → step.next.roll.drawn ≡ c.machine.roll.drawn
      → IsOverWith o (whats.Work (said ++ e.said ∷ []) close) (when_done o.daemon) c'.machine.roll c'.log
  off close inside closed daemons drawn =
      let log = closes_so step found inside close closed in
      let u : Under = under c.machine.roll y step.next.roll e.said.event in
      let all : all_said c.log.works e.daemon e.said ≡ said ++ e.said ∷ [] = ap (λ works. all_said works e.daemon e.said) works_own ∙ all_alone e.daemon said e.said in
      record {
        entry = entry_of u.number e (whats.Work (said ++ e.said ∷ []) close);
        next = record { number = w.number; daemon = own; what_is = refl };
        over = record {
          journal_is =
              log.1 ∙ (λ i. w.journal_is i ++ entry_of u.number e (whats.Work (all i) close) ∷ []);
          unsaid = log.0 ∙ ap (λ works. without_work works e.daemon) works_own ∙ none_alone e.daemon said;
          daemons =
              ap (λ (m : Machine). m.roll.daemons) (machine_is step found) ∙ daemons ∙ ap (λ (r : Roll). put_daemon r.daemons (when_done y)) w.roll_is
              ∙ put_put o.roll.daemons y (when_done y) refl;
          drawn_is = ap (λ (m : Machine). m.roll.drawn) (machine_is step found) ∙ drawn ∙ ap (λ (r : Roll). r.drawn) w.roll_is;
          id = refl;
          unheld = refl;
        };
      }

  faults_so : (event : Event) → e.said.event ≡ event → FaultsWithin c.machine y w.h event e step.next
      → (close : Close) × (closed_by e.said.answer ≡ Some close) × IsOverWith o (whats.Work (said ++ e.said ∷ []) close) (when_done o.daemon) c'.machine.roll c'.log
  faults_so event is faults =
      let inside : was_outside e.said ≡ false = (λ i. is_passed_over (is i) (faults.faults.told.answer i) || is_failed (faults.faults.told.answer i))
      ∙ asking_inside (transaction_of w.h c.machine.now) event faults.asks in (
        closes.Faulted,
        ap closed_by faults.faults.told.answer,
        off closes.Faulted inside (ap closed_by faults.faults.told.answer) (ap (λ (m : Machine). m.roll.daemons) faults.faults.after) (ap (λ (m : Machine). m.roll.drawn) faults.faults.after),
      )

  ends : (event : Event) → e.said.event ≡ event → is_closing (transaction_of w.h c.machine.now) event ≡ true
      → Closes c.machine y w.h e step.next ⊎ FaultsWithin c.machine y w.h event e step.next
      → (close : Close) × (closed_by e.said.answer ≡ Some close) × IsOverWith o (whats.Work (said ++ e.said ∷ []) close) (when_done o.daemon) c'.machine.roll c'.log
  ends event is closing (inl closes) =
      let inside : was_outside e.said ≡ false = (λ i. is_passed_over (is i) (closes.closes.told.answer i) || is_failed (closes.closes.told.answer i))
      ∙ closing_inside (transaction_of w.h c.machine.now) event closes.close closing in (
        closes.close,
        ap closed_by closes.closes.told.answer,
        off closes.close inside (ap closed_by closes.closes.told.answer) (ap (λ (m : Machine). m.roll.daemons) closes.after) (ap (λ (m : Machine). m.roll.drawn) closes.after),
      )
  ends event is closing (inr faults) = faults_so event is faults

  closed : ((close : Close) × (closed_by e.said.answer ≡ Some close) × IsOverWith o (whats.Work (said ++ e.said ∷ []) close) (when_done o.daemon) c'.machine.roll c'.log)
      → SaysOn o said e.said c'.machine.roll c'.log
  closed r = SaysOn.closed r.0 r.1 r.2

  enters : (event : Event) → e.said.event ≡ event → is_of_work event ≡ true → Enters c.machine y w.h event e step.next → SaysOn o said e.said c'.machine.roll c'.log
  enters event is line rest =
      let t : OpenTransaction = transaction_of w.h c.machine.now in
      let serves =
      subst (λ b. MatchBool b (OnTurn c.machine y w.h event e step.next) (IsSuspended c.machine e w.h.number c.machine.roll step.next)) served
      (subst (λ b. MatchBool b (Goes e step.next (refused refusals.NotBegun) c.machine)
      (MatchBool (served_number c.machine.roll == w.h.number) (OnTurn c.machine y w.h event e step.next) (IsSuspended c.machine e w.h.number c.machine.roll step.next)))
      (deep_outside w.h event w.deep) rest) in
      by (subst (λ b. MatchBool b (BeginsUnder c.machine y w.h e step.next) (Proceeds c.machine y w.h event e step.next ⊎ FaultsWithin c.machine y w.h event e step.next))
      (deep_opening t event w.deep) serves)
    where
      by : Proceeds c.machine y w.h event e step.next ⊎ FaultsWithin c.machine y w.h event e step.next → SaysOn o said e.said c'.machine.roll c'.log
      by (inr faults) = closed (faults_so event is faults)
      by (inl goes) =
          from_test (is_closing (transaction_of w.h c.machine.now) event) goes
          (λ closing closes. closed (ends event is closing (inl closes)))
          (λ unclosed works.
          let within = transacts_within (transaction_of w.h c.machine.now) event e.said works.after works.transacts in
          let open_still = transacts_open (transaction_of w.h c.machine.now) event e.said works.after works.transacts w.deep unclosed in
          on works.after.nesting ((λ i. is_passed_over (is i) e.said.answer || is_failed e.said.answer) ∙ within.inside) within.open_still
          (line_none (under c.machine.roll y step.next.roll e.said.event) e.said.event e.said.answer (ap is_of_work is ∙ line)) (ap (λ (m : Machine). m.roll) works.others) open_still.depth)

  -- a line of it
  pub says_on : (event : Event) → e.said.event ≡ event → (event ≡ events.Request → ⊥) → ((leave : Leave) → event ≡ events.Leaves leave → ⊥)
      → SaysOn o said e.said c'.machine.roll c'.log
  says_on event is no_request no_leave = by event is no_request no_leave (subst (λ ev. Holds c.machine y w.h ev e step.next) is held)
    where
      -- a daemon is put in its own place
      put_here_again : with_daemon c.machine.roll y ≡ c.machine.roll
      put_here_again =
          ap (λ (r : Roll). with_daemon r y) w.roll_is
          ∙ ap (λ ds. let r : Roll = record { daemons = ds; drawn = o.roll.drawn + 1; failed = None } in r) (put_put o.roll.daemons y y refl) ∙ sym w.roll_is

      by : (event : Event) → e.said.event ≡ event → (event ≡ events.Request → ⊥) → ((leave : Leave) → event ≡ events.Leaves leave → ⊥)
          → Holds c.machine y w.h event e step.next → SaysOn o said e.said c'.machine.roll c'.log
      by events.Request is no_request no_leave rest = absurd (no_request refl)
      by (events.Leaves leave) is no_request no_leave rest = absurd (no_leave leave refl)
      by (events.Look ticket) is no_request no_leave rest =
          let goes =
          subst (λ b. MatchBool b (MatchBool (served_number c.machine.roll == w.h.number) (Looks c.machine y e ticket c.machine.roll step.next) (IsSuspended c.machine e w.h.number c.machine.roll step.next))
          (Goes e step.next (refused (refusals.InTransaction w.h.number)) c.machine)) w.deep rest in
          on w.h.nesting (λ i. is_passed_over (is i) (goes.told.answer i) || is_failed (goes.told.answer i)) (ap closed_by goes.told.answer)
          (λ i. what_added (under c.machine.roll y step.next.roll e.said.event) (is i) (goes.told.answer i))
          (ap (λ (m : Machine). m.roll) goes.after ∙ sym put_here_again) w.deep
      by event is no_request no_leave rest = enters event is refl rest

  -- a leave closes it
  pub cuts : (leave : Leave) → e.said.event ≡ events.Leaves leave
      → (close : Close) × (closed_by e.said.answer ≡ Some close) × IsOverWith o (whats.Work (said ++ e.said ∷ []) close) (when_done o.daemon) c'.machine.roll c'.log
  cuts leave is =
      let rest = subst (λ ev. Holds c.machine y w.h ev e step.next) is held in
      let departs =
      subst (λ b. MatchBool b (Departs c.machine y w.h (events.Leaves leave) e step.next) (IsSuspended c.machine e w.h.number c.machine.roll step.next)) served rest in
      ends (events.Leaves leave) is refl
      (subst (λ b. MatchBool b (Goes e step.next (answers.Reply replies.Done) (with_roll c.machine (with_daemon c.machine.roll (after_leave y))))
      (Closes c.machine y w.h e step.next ⊎ FaultsWithin c.machine y w.h (events.Leaves leave) e step.next)) w.deep departs)
