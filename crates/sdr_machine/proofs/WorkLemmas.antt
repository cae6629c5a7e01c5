-- How what a lock has done for an event is a step of the machine.
use Rattle.std.proofs.Common.{◌≡◌, ◌⊎◌, ◌∙◌, ◌&&◌, ◌==◌, ℕ, List, [], ◌∷◌, Bool, true, false, not, if◌then◌else◌, true≢false, Option, None, Some, is_none, IsSome, option_and_then, ◌<◌, ◌^◌, find, cond, arith, MatchBool, MatchOption, refl, sym, ap, subst, inl, inr}
use Rattle.std.proofs.lemmas.Bool.Decides.{nat_tests}
use Rattle.std.specs.Option.{option_map, option_map_or}
use Rattle.sdr_base.specs.declared.refusal.Reason.{Reason}
use Rattle.sdr_base.specs.declared.refusal.Refusal.TheVariants as refusals
use Rattle.sdr_model.specs.AccountSteps.{pending_of}
use Rattle.sdr_model.specs.declared.accounts.Pending.{Pending}
use Rattle.sdr_model.specs.declared.answer.Answer.{Answer}
use Rattle.sdr_model.specs.declared.answer.Answer.TheVariants as answers
use Rattle.sdr_model.specs.declared.answer.Close.{Close}
use Rattle.sdr_model.specs.declared.answer.Close.TheVariants as closes
use Rattle.sdr_model.specs.declared.answer.Reply.{Reply}
use Rattle.sdr_model.specs.declared.call.Call.{Call}
use Rattle.sdr_model.specs.declared.event.Event.{Event}
use Rattle.sdr_model.specs.declared.event.Event.TheVariants as events
use Rattle.sdr_model.specs.declared.event.Leave.{Leave}
use Rattle.sdr_model.specs.declared.journal.Said.{Said}
use Rattle.sdr_machine.specs.Crash.{is_kept, commits_by, commits_in, commits_of, commits_under}
use Rattle.sdr_machine.specs.Ground.{State, Steps}
use Rattle.sdr_machine.specs.Machine.{Machine, Made, Closes, Comes, Enters, Goes, Holds, Looks, LooksAt, GoesOnIn, is_of_work, is_outside, roll_closed, with_roll}
use Rattle.sdr_machine.specs.Nesting.{Inner, closing, noted}
use Rattle.sdr_machine.specs.Roll.{MayDraw, Roll, when_passed_over, when_done, after_wait, at_nesting, daemon_of, held_by, is_stalled, served_number, waits_for, with_daemon, with_drawn}
use Rattle.sdr_machine.specs.Serving.{Settles, after_look, answer_seen, machine_at, sight, waiting_answer}
use Rattle.sdr_machine.specs.Standing.{GroundState}
use Rattle.sdr_machine.specs.Transaction.{Nests, OpenTransaction, Transacts, IsAnswered, asks_disk, bytes_given, is_closing, state_left, refused, transaction_of}
use Rattle.sdr_machine.specs.declared.daemon.Daemon.{Daemon}
use Rattle.sdr_machine.specs.declared.daemon.Holding.{Holding}
use Rattle.sdr_machine.specs.declared.nesting.Nesting.{Nesting}

-- where the test is false, the second holds
pub on_false : (P Q : Type 0) (b : Bool) → b ≡ false → Q → MatchBool b P Q
on_false P Q true e q = absurd (true≢false e)
on_false P Q false e q = q

-- where the test is true, the first holds
pub on_true : (P Q : Type 0) (b : Bool) → b ≡ true → P → MatchBool b P Q
on_true P Q true e p = p
on_true P Q false e p = absurd (true≢false (sym e))

-- where there is none, the first holds
pub on_none : {A : Type 0} (P : Type 0) (Q : A → Type 0) (o : Option A) → o ≡ None → P → MatchOption o P Q
on_none P Q None e p = p
on_none P Q (Some a) e p = absurd cc

-- where there is one, the second holds of it
pub on_some : {A : Type 0} (P : Type 0) (Q : A → Type 0) (o : Option A) (a : A) → o ≡ Some a → Q a → MatchOption o P Q
on_some P Q None a e q = absurd cc
on_some P Q (Some b) a e q = let same : b ≡ a = cc in subst Q (sym same) q

-- where the test is true, the first holds, or what holds besides
pub closes_outermost : (P Q S : Type 0) (b : Bool) → b ≡ true → P ⊎ S → MatchBool b P Q ⊎ S
closes_outermost P Q S b e (inl p) = inl (on_true _ _ b e p)
closes_outermost P Q S b e (inr s) = inr s

-- An inner event of the served transaction.
pub works_nests : (m m' : Machine) (d : Daemon) (h : Holding) (event : Event) (e : Made) (inner : Inner)
    → ((said : Said) (t' : OpenTransaction) → Nests (transaction_of h m.now) said t' inner → Transacts (transaction_of h m.now) event said t')
    → Goes e m' inner.answer (with_roll m (with_daemon m.roll (at_nesting d h inner.after)))
    → GoesOnIn m d h event e m'
works_nests m m' d h event e inner transacts goes =
    let t' : OpenTransaction = record { number = h.number; nesting = inner.after; state = m.now } in
    record { after = t'; transacts = transacts e.said t' (record { told = goes.told; after = refl }); others = goes.after }

-- A call of a doomed transaction is refused.
pub works_doomed : (m m' : Machine) (d : Daemon) (h : Holding) (call : Call) (e : Made) (reason : Reason)
    → h.nesting.doom ≡ Some reason → Goes e m' (refused (refusals.Doomed reason)) (with_roll m (with_daemon m.roll (at_nesting d h h.nesting)))
    → GoesOnIn m d h (events.Say call) e m'
works_doomed m m' d h call e reason doomed goes = record {
  after = transaction_of h m.now;
  transacts = on_some _ _ h.nesting.doom reason doomed (record { told = goes.told; after = refl });
  others = goes.after;
}

-- A call is answered by a step of the machine.
pub works_called : (m m' : Machine) (d : Daemon) (h : Holding) (call : Call) (reply : Reply) (e : Made)
    (v' : GroundState)
    → h.nesting.doom ≡ None
    → Steps m.now call (record { reply = reply; moves = v'.moves; after = v'.now })
    → e.said.answer ≡ answers.Reply reply → e.said.moves ≡ v'.moves
    → e.said.bytes ≡ bytes_given e.said.answer v'.now.world.shown
    → m' ≡ record { roll = with_daemon m.roll (at_nesting d h (noted call reply h.nesting)); before = m.before; now = v'.now }
    → GoesOnIn m d h (events.Say call) e m'
works_called m m' d h call reply e v' sound steps answer moves bytes is = record {
  after = record { number = h.number; nesting = noted call reply h.nesting; state = v'.now };
  transacts = on_none _ _ h.nesting.doom sound (record {
    done = record { reply = reply; moves = v'.moves; after = v'.now };
    steps = steps;
    answer = answer;
    moves = moves;
    bytes = bytes;
    after = refl;
  });
  others = is;
}

-- The disk is asked for an event that closes its transaction.
pub asks_closing : (t : OpenTransaction) (event : Event) → is_closing t event ≡ true → asks_disk t event ≡ true
asks_closing t events.Request closes = closes
asks_closing t events.Begin closes = closes
asks_closing t (events.Say call) closes = absurd (true≢false (sym closes))
asks_closing t events.End closes = closes
asks_closing t events.Cancel closes = closes
asks_closing t events.Exit closes = closes
asks_closing t (events.Look ticket) closes = closes
asks_closing t (events.Leaves leave) closes = closes

-- What a close leaves is the one state before and now.
pub left_so : (close : Close) (v v' : GroundState) → Settles close v v' → (v'.before ≡ state_left close v.before v.now) × (v'.now ≡ state_left close v.before v.now)
left_so closes.Ended v v' left = left
left_so closes.Exited v v' left = left
left_so (closes.Cancelled reason) v v' left = left
left_so closes.Faulted v v' left = left

-- The served transaction closes where its state was kept or put back.
pub closes_so : (r r' : Roll) (d : Daemon) (h : Holding) (e : Made) (close : Close) (v v' : GroundState)
    → close ≡ closing h.nesting e.said.event → IsAnswered e.said (answers.Closed close)
    → Settles close v v' → r' ≡ roll_closed r d
    → Closes (machine_at r v) d h e (machine_at r' v')
closes_so r r' d h e close v v' how told left roll = record {
  close = close;
  left = v'.before;
  closes = record { how = how; told = told; left = (left_so close v v' left).0 };
  after = λ i. record { roll = roll i; before = v'.before; now = ((left_so close v v' left).1 ∙ sym (left_so close v v' left).0) i };
}

-- A close keeps the transaction where its event does.
pub keeps_closing : (number : ℕ) (n : Nesting) (s : State) (event : Event) → is_closing (record { number = number; nesting = n; state = s }) event ≡ true
    → is_kept (closing n event) ≡ commits_in n event
keeps_closing number n s events.Request closes = absurd (true≢false (sym closes))
keeps_closing number n s events.Begin closes = absurd (true≢false (sym closes))
keeps_closing number n s (events.Say call) closes = absurd (true≢false (sym closes))
keeps_closing number n s events.End closes = ends n.doom ∙ sym (ap (λ b. b && is_none n.doom) closes)
  where
    ends : (doom : Option Reason) → is_kept (closing (record n { doom = doom }) events.End) ≡ is_none doom
    ends None = refl
    ends (Some reason) = refl
keeps_closing number n s events.Cancel closes = cancels n.doom
  where
    cancels : (doom : Option Reason) → is_kept (closing (record n { doom = doom }) events.Cancel) ≡ false
    cancels None = refl
    cancels (Some reason) = refl
keeps_closing number n s events.Exit closes = exits n.doom n.modified
  where
    exits : (doom : Option Reason) (modified : Bool) → is_kept (closing (record n { doom = doom; modified = modified }) events.Exit) ≡ false
    exits None true = refl
    exits None false = refl
    exits (Some reason) modified = refl
keeps_closing number n s (events.Look ticket) closes = absurd (true≢false (sym closes))
keeps_closing number n s (events.Leaves leave) closes = leaves n.doom
  where
    leaves : (doom : Option Reason) → is_kept (closing (record n { doom = doom }) (events.Leaves leave)) ≡ false
    leaves None = refl
    leaves (Some reason) = refl

-- the daemon that is found for a number has that number
pub found_id : (id : ℕ) (ds : List Daemon) (d : Daemon) → find (λ (x : Daemon). x.id == id) ds ≡ Some d → d.id ≡ id
found_id id [] d is = absurd cc
found_id id (x ∷ ds) d is = step (λ e. found_id id ds d e) (x.id == id) refl is
  where
    step : (find (λ (y : Daemon). y.id == id) ds ≡ Some d → d.id ≡ id) → (b : Bool) → (x.id == id) ≡ b → cond b (Some x) (find (λ (y : Daemon). y.id == id) ds) ≡ Some d → d.id ≡ id
    step rest true here e = let same : x ≡ d = cc in subst (λ (y : Daemon). y.id ≡ id) same (grind (arith, nat_tests))
    step rest false here e = rest e

-- An event that draws no number is refused to a daemon without one.
pub comes_refused : (m m' : Machine) (d : Daemon) (event : Event) (e : Made) → (event ≡ events.Request → ⊥) → (event ≡ events.Begin → ⊥)
    → ((ticket : ℕ) → event ≡ events.Look ticket → ⊥) → ((leave : Leave) → event ≡ events.Leaves leave → ⊥)
    → Goes e m' (refused refusals.NotBegun) m → Comes m d event e m'
comes_refused m m' d events.Request e not_request not_begin not_look not_leaves goes = absurd (not_request refl)
comes_refused m m' d events.Begin e not_request not_begin not_look not_leaves goes = absurd (not_begin refl)
comes_refused m m' d (events.Say call) e not_request not_begin not_look not_leaves goes = goes
comes_refused m m' d events.End e not_request not_begin not_look not_leaves goes = goes
comes_refused m m' d events.Cancel e not_request not_begin not_look not_leaves goes = goes
comes_refused m m' d events.Exit e not_request not_begin not_look not_leaves goes = goes
comes_refused m m' d (events.Look ticket) e not_request not_begin not_look not_leaves goes = absurd (not_look ticket refl)
comes_refused m m' d (events.Leaves leave) e not_request not_begin not_look not_leaves goes = absurd (not_leaves leave refl)

-- Neither a request, nor a look, nor a leave is one of a transaction.
pub is_work : (event : Event) → (event ≡ events.Request → ⊥) → ((ticket : ℕ) → event ≡ events.Look ticket → ⊥)
    → ((leave : Leave) → event ≡ events.Leaves leave → ⊥) → is_of_work event ≡ true
is_work events.Request not_request not_look not_leaves = absurd (not_request refl)
is_work events.Begin not_request not_look not_leaves = refl
is_work (events.Say call) not_request not_look not_leaves = refl
is_work events.End not_request not_look not_leaves = refl
is_work events.Cancel not_request not_look not_leaves = refl
is_work events.Exit not_request not_look not_leaves = refl
is_work (events.Look ticket) not_request not_look not_leaves = absurd (not_look ticket refl)
is_work (events.Leaves leave) not_request not_look not_leaves = absurd (not_leaves leave refl)

-- Such an event under a number is served, suspended or refused.
pub holds_entering : (m m' : Machine) (d : Daemon) (h : Holding) (event : Event) (e : Made) → is_of_work event ≡ true → Enters m d h event e m' → Holds m d h event e m'
holds_entering m m' d h events.Request e is enters = absurd (true≢false (sym is))
holds_entering m m' d h events.Begin e is enters = enters
holds_entering m m' d h (events.Say call) e is enters = enters
holds_entering m m' d h events.End e is enters = enters
holds_entering m m' d h events.Cancel e is enters = enters
holds_entering m m' d h events.Exit e is enters = enters
holds_entering m m' d h (events.Look ticket) e is enters = absurd (true≢false (sym is))
holds_entering m m' d h (events.Leaves leave) e is enters = absurd (true≢false (sym is))

-- What a look is answered by what is seen of its ticket.
pub looks_so : (m m' : Machine) (d : Daemon) (e : Made) (ticket : ℕ) (roll : Roll)
    → Goes e m' (sight m.roll m.before.world d ticket) (with_roll m (with_daemon roll (after_look d ticket (sight m.roll m.before.world d ticket))))
    → LooksAt m d e ticket roll m'
looks_so m m' d e ticket roll = seen (pending_of m.before.world ticket)
  where
    waits : Bool → Answer → Type 0
    waits stalled answer = Goes e m' answer (with_roll m (with_daemon roll (after_look d ticket answer)))

    again : (b : Bool) → waits b (if b then answers.Stalled else answers.Waits) → MatchBool b
        (Goes e m' answers.Stalled (with_roll m (with_daemon roll (when_done d))))
        (Goes e m' answers.Waits (with_roll m (with_daemon roll (after_wait d ticket))))
    again true goes = goes
    again false goes = goes

    granted : (b : Bool) (p : Pending) → p.ticket.granted ≡ b → let w = waiting_answer (waits_for d ticket) (is_stalled m.roll m.before.world) in
        waits b (answer_seen (Some b) ticket w) → MatchBool b
        (Goes e m' answers.Awarded (with_roll m (with_daemon roll (when_done d))))
        (MatchBool (waits_for d ticket && is_stalled m.roll m.before.world)
        (Goes e m' answers.Stalled (with_roll m (with_daemon roll (when_done d))))
        (Goes e m' answers.Waits (with_roll m (with_daemon roll (after_wait d ticket)))))
    granted true p is goes = goes
    granted false p is goes = again (waits_for d ticket && is_stalled m.roll m.before.world) goes

    seen : (o : Option Pending) → let answer = answer_seen (option_map (λ (p : Pending). p.ticket.granted) o) ticket (waiting_answer (waits_for d ticket) (is_stalled m.roll m.before.world)) in
        Goes e m' answer (with_roll m (with_daemon roll (after_look d ticket answer)))
        → MatchOption o
        (Goes e m' (refused (refusals.BadTicket ticket)) (with_roll m (with_daemon roll (when_passed_over d))))
        (λ p. MatchBool p.ticket.granted
        (Goes e m' answers.Awarded (with_roll m (with_daemon roll (when_done d))))
        (MatchBool (waits_for d ticket && is_stalled m.roll m.before.world)
        (Goes e m' answers.Stalled (with_roll m (with_daemon roll (when_done d))))
        (Goes e m' answers.Waits (with_roll m (with_daemon roll (after_wait d ticket))))))
    seen None goes = goes
    seen (Some p) goes = granted p.ticket.granted p refl goes

-- An event of the served transaction, which has begun, keeps it where its nesting says so.
pub keeps_served : (r : Roll) (h : Holding) (event : Event) → (served_number r == h.number) ≡ true → is_outside h event ≡ false
    → commits_in h.nesting event ≡ commits_under r h event
keeps_served r h event mine inside = sym (λ i. mine i && not (inside i) && commits_in h.nesting event)

-- An event of a daemon that hasn't left and holds a number keeps what one under that number does.
pub keeps_holding : (r : Roll) (d : Daemon) (h : Holding) (event : Event) → d.left ≡ false → d.holds ≡ Some h → commits_under r h event ≡ commits_of r d event
keeps_holding r d h event stays holds =
    sym (λ i. not (stays i) && option_map_or (λ (h : Holding). commits_under r h event) (holds i) false)

-- An event of the daemon that is found keeps what one of that daemon does.
pub keeps_found : (r : Roll) (id : ℕ) (d : Daemon) (event : Event) → daemon_of r id ≡ Some d → commits_of r d event ≡ commits_by r id event
keeps_found r id d event found = sym (ap (λ (o : Option Daemon). option_map_or (λ (d : Daemon). commits_of r d event) o false) found)

-- A look behind a number that was drawn and is done is one from before it was drawn.
pub looks_drawn : (r : Roll) (v : GroundState) (m' : Machine) (d : Daemon) (e : Made) (ticket : ℕ)
    → Looks (machine_at (with_drawn r) v) d e ticket (with_drawn r) m' → Looks (machine_at r v) d e ticket (with_drawn r) m'
looks_drawn r v m' d e ticket (inl looks) = inl looks
looks_drawn r v m' d e ticket (inr faults) = inr (record { heap = faults.heap; told = faults.told; after = faults.after })

-- A daemon that is found may draw a number where the daemon of its number may.
pub may_draw_found : (r : Roll) (id : ℕ) (d : Daemon) → daemon_of r id ≡ Some d → MayDraw r (held_by r id) → MayDraw r d.holds
may_draw_found r id d found may = subst (λ (o : Option Daemon). MayDraw r (option_and_then (λ (d : Daemon). d.holds) o)) found may

-- One that holds no number may only where another can be drawn.
pub may_draw_free : (r : Roll) (held : Option Holding) → held ≡ None → MayDraw r held → r.drawn < 2 ^ 60
may_draw_free r held free (inl holds) = absurd (true≢false (sym (subst IsSome free holds)))
may_draw_free r held free (inr below) = below
