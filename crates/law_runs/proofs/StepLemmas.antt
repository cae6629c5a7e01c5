-- What a core keeps after each step of its machine.
use Rattle.std.proofs.Common.{◌≡◌, ◌⊎◌, ◌∙◌, ◌==◌, ◌+◌, ◌&&◌, ℕ, List, Bool, true, false, not, Option, None, Some, MatchBool, refl, sym, ap, subst, inl, inr, true≢false}
use Rattle.std.specs.Option.{option_map_or}
use Rattle.std.specs.Prelude.{if◌then◌else◌}
use Rattle.sdr_base.specs.Media.{Told}
use Rattle.sdr_base.specs.declared.refusal.Refusal.TheVariants as refusals
use Rattle.sdr_model.specs.AccountSteps.{is_granted, pending_of}
use Rattle.sdr_model.specs.declared.accounts.Pending.{Pending}
use Rattle.sdr_model.specs.declared.answer.Answer.{Answer}
use Rattle.sdr_model.specs.declared.answer.Answer.TheVariants as answers
use Rattle.sdr_model.specs.declared.answer.Reply.TheVariants as replies
use Rattle.sdr_model.specs.declared.event.Event.{Event}
use Rattle.sdr_model.specs.declared.event.Event.TheVariants as events
use Rattle.sdr_model.specs.declared.event.Leave.{Leave}
use Rattle.sdr_model.specs.declared.journal.What.TheVariants as whats
use Rattle.sdr_machine.specs.Agreeing.{AgreesWith}
use Rattle.sdr_machine.specs.Core.{Core, Under, has_left, what_added}
use Rattle.sdr_machine.specs.Ground.{State}
use Rattle.sdr_machine.specs.Legal.{last_entry, waited_for}
use Rattle.sdr_machine.specs.Machine.{Machine, Made, MachineStep, StepsOf, Closes, Comes, Enters, FaultsWithin, Holds, Looks, LooksAt, OnTurn, GoesOnIn, is_outside, roll_acting, roll_coming, roll_failed, roll_holding, with_roll}
use Rattle.sdr_machine.specs.Roll.{after_leave, daemon_of, is_stalled, served_number, waits_for, with_daemon, with_drawn, with_number}
use Rattle.sdr_machine.specs.Transaction.{OpenTransaction, Transacts, asks_disk, is_closing, is_opening, transaction_of}
use Rattle.sdr_machine.specs.declared.daemon.Daemon.{Daemon}
use Rattle.sdr_machine.specs.declared.daemon.Holding.{Holding}
use Rattle.sdr_machine.proofs.StepLemmas.{from_option, from_test}
use Rattle.law_runs.proofs.CaseLemmas.{IsIdle, begins, done_none, done_some, draws, idle_fresh, idle_mine, looked_inside, not_begun, opens, refused_adds_none, requested, suspended, unchanged, with_done}
use Rattle.law_runs.proofs.ClosingLemmas.{closes_so, faults_so, goes_on, look_faults}
use Rattle.law_runs.proofs.CoreLemmas.{IsNext, StepKeeps, found_there, or_true, unknown}
use Rattle.sdr_machine.proofs.RollLemmas.{found_put, same_number}
use Rattle.law_runs.proofs.StalledLemmas.{stalled_by_roll, waits_agree}
use Rattle.law_runs.proofs.TransactLemmas.{passes}
use Rattle.law_runs.proofs.TurnLemmas.{IsTurn, turn_fresh, turn_mine}

-- the daemon waits for the ticket
waits_for_it : (o : Option ℕ) (ticket : ℕ) → option_map_or (λ t. t == ticket) o false ≡ true → Some ticket ≡ o
waits_for_it None ticket e = absurd (true≢false (sym e))
waits_for_it (Some t) ticket e = ap Some (sym (same_number t ticket e))

-- both tests pass
both_pass : (a b : Bool) → (a && b) ≡ true → (a ≡ true) × (b ≡ true)
both_pass true b e = (refl, e)
both_pass false b e = absurd (true≢false (sym e))

-- an event that opens a transaction is a begin
opening_begins : (t : OpenTransaction) (event : Event) → is_opening t event ≡ true → (event ≡ events.Begin) × ((t.nesting.depth == 0) ≡ true)
opening_begins t events.Begin first = (refl, first)
opening_begins t event first = absurd (true≢false (sym first))

-- one that neither opens one nor stands outside stands in one
inside_begun : (h : Holding) (s : State) (event : Event) → is_outside h event ≡ false → is_opening (transaction_of h s) event ≡ false → (h.nesting.depth == 0) ≡ false
inside_begun h s events.Begin out first = first
inside_begun h s event out first = out

failed_adds_none : (u : Under) (event : Event) (moment : ℕ) → u.left ≡ false → what_added u event (answers.Reply (replies.Failed moment)) ≡ None
failed_adds_none u (events.Leaves leave) moment stays = ap (λ b. if b then Some (whats.Leaves leave) else None) stays
failed_adds_none u (events.Look ticket) moment stays = refl
failed_adds_none u event moment stays = refl

module _ {told : Option Told} {daemons : List ℕ} {first : State} {c : Core} {e : Made} (p : IsNext told daemons first c e) (m' : Machine) where
  -- the machine that an event has come to
  abbrev KeepsAt : Machine → Type 0
  KeepsAt next = StepKeeps told daemons first c e next

  module _ {d : Daemon} (found : daemon_of c.machine.roll e.daemon ≡ Some d) (stays : d.left ≡ false) where
    -- the daemon has left by the event
    leaves_now : (drawn : ℕ) → (has_left (with_done c.machine d true None drawn).roll d.id && not d.left) ≡ true
    leaves_now drawn =
        ap (λ o. option_map_or (λ (x : Daemon). x.left) o false && not d.left) (found_put c.machine.roll.daemons (record d { left = true; waits = None; holds = None }) d (found_there p found))
        ∙ ap (λ b. not b) stays

    leave_added : (leave : Leave) (drawn : ℕ) (answer : Answer) → passes (events.Leaves leave) answer ≡ true
        → (if has_left (with_done c.machine d true None drawn).roll d.id && not d.left then Some (whats.Leaves leave) else None) ≡ Some (whats.Leaves leave)
    leave_added leave drawn answer outside = ap (λ b. if b then Some (whats.Leaves leave) else None) (leaves_now drawn)

    module _ (sound : c.machine.roll.failed ≡ None) where
      -- a look at a ticket of a daemon whose number is served
      looks_at : (ticket drawn : ℕ) → IsTurn c.log.journal c.machine.roll d drawn → IsIdle told c.machine c.log.works d → e.said.event ≡ events.Look ticket
          → LooksAt c.machine d e ticket (record c.machine.roll { drawn = drawn }) m' → KeepsAt m'
      looks_at ticket drawn turn idle is looks =
          from_option (pending_of c.machine.before.world ticket) looks
          (λ none goes. subst KeepsAt (sym goes.after) (done_none p found d.waits is goes.told.answer refl refl (λ u left waited. refl) turn (λ _. idle) refl))
          (λ t there seen. from_test t.ticket.granted seen
          (λ granted goes. subst KeepsAt (sym goes.after)
          (done_some p found d.left None (whats.Awarded ticket) is goes.told.answer refl refl refl turn (λ _. idle) (record { left = stays; waits = refl })
          (ap is_granted there ∙ granted, refl) (inl sound) refl))
          (λ waiting rest. from_test (waits_for d ticket && is_stalled c.machine.roll c.machine.before.world) rest
          (λ stalled goes. subst KeepsAt (sym goes.after)
          (let both = both_pass (waits_for d ticket) (is_stalled c.machine.roll c.machine.before.world) stalled in
          done_some p found d.left None (whats.Stalled ticket) is goes.told.answer refl refl refl turn (λ _. idle) (record { left = stays; waits = refl }) (
            (ap is_granted there ∙ waiting, ap (λ o. option_map_or (λ (x : Pending). true) o false) there),
            sym waited ∙ both.0,
            stalled_by_roll daemons c.log.journal c.machine.roll c.machine.before.world p.keeps.roll both.1,
            refl,
          ) (inl sound) refl))
          (λ _ goes. subst KeepsAt (sym goes.after) (waits (waits_for d ticket) refl goes.told.answer (ap is_granted there ∙ waiting)
          (ap (λ o. option_map_or (λ (x : Pending). true) o false) there)))))
        where
          waited : waits_for d ticket ≡ waited_for c.log.journal e.daemon ticket
          waited = waits_agree (last_entry c.log.journal e.daemon) d ticket (p.keeps.roll.agree e.daemon d found)

          waits : (b : Bool) → waits_for d ticket ≡ b → e.said.answer ≡ answers.Waits → is_granted (pending_of c.machine.before.world ticket) ≡ false
              → option_map_or (λ (x : Pending). true) (pending_of c.machine.before.world ticket) false ≡ true → KeepsAt (with_done c.machine d d.left (Some ticket) drawn)
          waits true again answer ungranted there =
              done_none p found (Some ticket) is answer refl refl
              (λ u left same. ap (λ b. if b then None else Some (whats.Waits ticket)) (same ∙ again)) turn (λ _. idle) (waits_for_it d.waits ticket again)
          waits false new answer ungranted there =
              done_some p found d.left (Some ticket) (whats.Waits ticket) is answer refl refl (ap (λ b. if b then None else Some (whats.Waits ticket)) new) turn (λ _. idle)
              (record { left = stays; waits = refl }) ((ungranted, there), sym waited ∙ new, refl) (inl sound) refl

      looks_so : (ticket drawn : ℕ) → IsTurn c.log.journal c.machine.roll d drawn → IsIdle told c.machine c.log.works d → e.said.event ≡ events.Look ticket
          → Looks c.machine d e ticket (record c.machine.roll { drawn = drawn }) m' → KeepsAt m'
      looks_so ticket drawn turn idle is (inl looks) = looks_at ticket drawn turn idle is looks
      looks_so ticket drawn turn idle is (inr faults) =
          subst KeepsAt (sym faults.after) (look_faults p found ticket drawn sound stays turn idle faults.heap is faults.told)

      -- a leave by which the daemon has left
      left_so : (leave : Leave) (drawn : ℕ) → IsTurn c.log.journal c.machine.roll d drawn → IsIdle told c.machine c.log.works d → e.said.event ≡ events.Leaves leave
          → e.said.answer ≡ answers.Reply replies.Done → KeepsAt (with_done c.machine d true None drawn)
      left_so leave drawn turn idle is answer =
          done_some p found true None (whats.Leaves leave) is answer refl refl (leave_added leave drawn (answers.Reply replies.Done) refl) turn (λ _. idle)
          (record { left = refl; waits = refl }) refl (inl sound) refl

      comes : (event : Event) → e.said.event ≡ event → d.holds ≡ None → Comes c.machine d event e m' → KeepsAt m'
      comes events.Request is none goes = subst KeepsAt (sym goes.after) (draws p found is goes.told.answer refl refl (λ u left. refl) none)
      comes events.Begin is none goes = subst KeepsAt (sym goes.after) (begins p found is goes.told none)
      comes (events.Look ticket) is none rest =
          from_test (served_number c.machine.roll == 0) rest
          (λ free looks. looks_so ticket (c.machine.roll.drawn + 1) (turn_fresh p.keeps.roll (found_there p found) none free) (idle_fresh p found none free) is looks)
          (λ _ goes. subst KeepsAt (sym goes.after) (draws p found is goes.told.answer refl refl (λ u left. refl) none))
      comes (events.Leaves leave) is none rest =
          from_test (served_number c.machine.roll == 0) rest
          (λ free goes. subst KeepsAt (sym goes.after)
          (left_so leave (c.machine.roll.drawn + 1) (turn_fresh p.keeps.roll (found_there p found) none free) (idle_fresh p found none free) is goes.told.answer))
          (λ _ goes. subst KeepsAt (sym goes.after)
          (draws p found is goes.told.answer refl refl (λ u left. refused_adds_none u (events.Leaves leave) (refusals.Suspended (served_number c.machine.roll) (c.machine.roll.drawn + 1)) left) none))
      comes event is none goes = subst KeepsAt (sym goes.after) (not_begun p found goes.told.answer)

      module _ {h : Holding} (holds : d.holds ≡ Some h) where
        -- the transaction closes, or the disk fails in it
        closes_or_faults : (event : Event) → e.said.event ≡ event → (h.nesting.depth == 0) ≡ false → (served_number c.machine.roll == h.number) ≡ true
            → is_closing (transaction_of h c.machine.now) event ≡ true → Closes c.machine d h e m' ⊎ FaultsWithin c.machine d h event e m' → KeepsAt m'
        closes_or_faults event is inside served closing (inl closes) =
            subst KeepsAt (sym closes.after)
            (closes_so p found holds inside served sound closes.close closes.left stays (ap (is_closing (transaction_of h c.machine.now)) is ∙ closing) closes.closes)
        closes_or_faults event is inside served closing (inr faults) =
            subst KeepsAt (sym faults.faults.after)
            (faults_so p found holds inside served sound stays (ap (asks_disk (transaction_of h c.machine.now)) is ∙ faults.asks) faults.faults.heap faults.faults.told)

        serves : (event : Event) → e.said.event ≡ event → is_outside h event ≡ false → (served_number c.machine.roll == h.number) ≡ true
            → AgreesWith told c.machine.now.world e.said.event e.said.answer e.said.bytes → OnTurn c.machine d h event e m' → KeepsAt m'
        serves event is within served media rest =
            from_test (is_opening (transaction_of h c.machine.now) event) rest
            (λ opening goes.
            let begin = opening_begins (transaction_of h c.machine.now) event opening in
            subst KeepsAt (sym goes.after) (opens p found holds served begin.1 (is ∙ begin.0) goes.told))
            (λ unopened either. proceeds (inside_begun h c.machine.now event within unopened) either)
          where
            proceeds : (h.nesting.depth == 0) ≡ false
                → MatchBool (is_closing (transaction_of h c.machine.now) event) (Closes c.machine d h e m') (GoesOnIn c.machine d h event e m') ⊎ FaultsWithin c.machine d h event e m' → KeepsAt m'
            proceeds inside (inr faults) =
                subst KeepsAt (sym faults.faults.after)
                (faults_so p found holds inside served sound stays (ap (asks_disk (transaction_of h c.machine.now)) is ∙ faults.asks) faults.faults.heap faults.faults.told)
            proceeds inside (inl goes) =
                from_test (is_closing (transaction_of h c.machine.now) event) goes
                (λ closing closes. closes_or_faults event is inside served closing (inl closes))
                (λ unclosed works.
                subst KeepsAt (sym works.others)
                (goes_on p found holds inside served sound works.after (ap (is_closing (transaction_of h c.machine.now)) is ∙ unclosed)
                (subst (λ ev. Transacts (transaction_of h c.machine.now) ev e.said works.after) (sym is) works.transacts) media))

        enters : (event : Event) → e.said.event ≡ event → AgreesWith told c.machine.now.world e.said.event e.said.answer e.said.bytes
            → Enters c.machine d h event e m' → KeepsAt m'
        enters event is media rest =
            from_test (is_outside h event) rest (λ _ goes. subst KeepsAt (sym goes.after) (not_begun p found goes.told.answer))
            (λ within rest. from_test (served_number c.machine.roll == h.number) rest
            (λ served serving. serves event is within served media serving)
            (λ _ goes. subst KeepsAt (sym goes.after) (suspended p found _ _ goes.told.answer)))

        holding : (event : Event) → e.said.event ≡ event → AgreesWith told c.machine.now.world e.said.event e.said.answer e.said.bytes
            → Holds c.machine d h event e m' → KeepsAt m'
        holding events.Request is media goes = subst KeepsAt (sym goes.after) (requested p found h.number is goes.told.answer)
        holding (events.Look ticket) is media rest =
            from_test (h.nesting.depth == 0) rest
            (λ outside rest. from_test (served_number c.machine.roll == h.number) rest
            (λ served looks. looks_so ticket c.machine.roll.drawn (turn_mine p.keeps.roll (found_there p found) holds served) (idle_mine p found holds served outside) is looks)
            (λ _ goes. subst KeepsAt (sym goes.after) (suspended p found _ _ goes.told.answer)))
            (λ inside goes. subst KeepsAt (sym goes.after) (looked_inside p found holds ticket inside is goes.told))
        holding (events.Leaves leave) is media rest =
            from_test (served_number c.machine.roll == h.number) rest
            (λ served departs. from_test (h.nesting.depth == 0) departs
            (λ outside goes. subst KeepsAt (sym goes.after)
            (left_so leave c.machine.roll.drawn (turn_mine p.keeps.roll (found_there p found) holds served) (idle_mine p found holds served outside) is goes.told.answer))
            (λ inside ends. closes_or_faults (events.Leaves leave) is inside served refl ends))
            (λ _ goes. subst KeepsAt (sym goes.after) (suspended p found _ _ goes.told.answer))
        holding event is media rest = enters event is media rest

  -- the disk hasn't failed
  answered : c.machine.roll.failed ≡ None → AgreesWith told c.machine.now.world e.said.event e.said.answer e.said.bytes → StepsOf c.machine e m' → KeepsAt m'
  answered sound media rest =
      from_option (daemon_of c.machine.roll e.daemon) rest (λ none goes. subst KeepsAt (sym goes.after) (unknown p none))
      (λ d found performs. from_test d.left performs (λ _ goes. subst KeepsAt (sym goes.after) (not_begun p found goes.told.answer))
      (λ stays rest. from_option d.holds rest (λ none coming. comes found stays sound e.said.event refl none coming)
      (λ h holds kept. holding found stays sound holds e.said.event refl media kept)))

  -- the disk has failed
  module _ {d : Daemon} (found : daemon_of c.machine.roll e.daemon ≡ Some d) (moment : ℕ) (broken : c.machine.roll.failed ≡ Some moment) (answer : e.said.answer ≡ answers.Reply (replies.Failed moment)) where
    stays_failed : KeepsAt c.machine
    stays_failed = unchanged p found refl answer (or_true _) refl (λ u left. failed_adds_none u e.said.event moment left)

    draws_failed : d.holds ≡ None → KeepsAt (with_roll c.machine (with_number c.machine.roll d 0))
    draws_failed none = draws p found refl answer (or_true _) refl (λ u left. failed_adds_none u e.said.event moment left) none

    leaves_failed : (leave : Leave) (drawn : ℕ) → d.left ≡ false → e.said.event ≡ events.Leaves leave → IsTurn c.log.journal c.machine.roll d drawn
        → KeepsAt (with_done c.machine d true None drawn)
    leaves_failed leave drawn stays is turn =
        done_some p found true None (whats.Leaves leave) is answer refl refl (leave_added found stays leave drawn (answers.Reply (replies.Failed moment)) refl) turn
        (λ none. absurd cc) (record { left = refl; waits = refl }) refl (inr refl) refl

    coming_failed : (event : Event) → e.said.event ≡ event → d.left ≡ false → d.holds ≡ None → KeepsAt (with_roll c.machine (roll_coming c.machine.roll d event))
    coming_failed events.Request is stays none = draws_failed none
    coming_failed (events.Leaves leave) is stays none = by (served_number c.machine.roll == 0) refl
      where
        by : (b : Bool) → (served_number c.machine.roll == 0) ≡ b
            → KeepsAt (with_roll c.machine (if b then with_daemon (with_drawn c.machine.roll) (after_leave d) else with_number c.machine.roll d 0))
        by true free = leaves_failed leave (c.machine.roll.drawn + 1) stays is (turn_fresh p.keeps.roll (found_there p found) none free)
        by false e = draws_failed none
    coming_failed event is stays none = stays_failed

    holding_failed : (h : Holding) (event : Event) → e.said.event ≡ event → d.left ≡ false → d.holds ≡ Some h → KeepsAt (with_roll c.machine (roll_holding c.machine.roll d h event))
    holding_failed h (events.Leaves leave) is stays holds = by (served_number c.machine.roll == h.number) refl
      where
        by : (b : Bool) → (served_number c.machine.roll == h.number) ≡ b → KeepsAt (with_roll c.machine (if b then with_daemon c.machine.roll (after_leave d) else c.machine.roll))
        by true served = leaves_failed leave c.machine.roll.drawn stays is (turn_mine p.keeps.roll (found_there p found) holds served)
        by false e = stays_failed
    holding_failed h event is stays holds = stays_failed

    acting_failed : KeepsAt (with_roll c.machine (roll_acting c.machine.roll d e.said.event))
    acting_failed = by d.left refl
      where
        of : (o : Option Holding) → d.holds ≡ o → d.left ≡ false
            → KeepsAt (with_roll c.machine (option_map_or (λ (h : Holding). roll_holding c.machine.roll d h e.said.event) o (roll_coming c.machine.roll d e.said.event)))
        of None none stays = coming_failed e.said.event refl stays none
        of (Some h) holds stays = holding_failed h e.said.event refl stays holds

        by : (b : Bool) → d.left ≡ b
            → KeepsAt (with_roll c.machine (if b then c.machine.roll else option_map_or (λ (h : Holding). roll_holding c.machine.roll d h e.said.event) d.holds (roll_coming c.machine.roll d e.said.event)))
        by true left = stays_failed
        by false stays = of d.holds refl stays

  failed : (moment : ℕ) → c.machine.roll.failed ≡ Some moment → e.said.answer ≡ answers.Reply (replies.Failed moment)
      → KeepsAt (with_roll c.machine (roll_failed c.machine.roll e.daemon e.said.event))
  failed moment broken answer = by (daemon_of c.machine.roll e.daemon) refl
    where
      by : (o : Option Daemon) → daemon_of c.machine.roll e.daemon ≡ o
          → KeepsAt (with_roll c.machine (option_map_or (λ (d : Daemon). roll_acting c.machine.roll d e.said.event) o c.machine.roll))
      by None none = unknown p none
      by (Some d) found = acting_failed found moment broken answer

  -- a step of the machine keeps what the core does
  pub step_keeps : MachineStep c.machine e m' → AgreesWith told c.machine.now.world e.said.event e.said.answer e.said.bytes → StepKeeps told daemons first c e m'
  step_keeps step media =
      from_option c.machine.roll.failed step (λ sound rest. answered sound media rest)
      (λ moment broken goes. subst KeepsAt (sym goes.after) (failed moment broken goes.told.answer))
