-- What an event of an open transaction is answered, and what the transaction then is.
use Rattle.std.proofs.Common.{◌≡◌, ◌⊎◌, ◌∙◌, ◌==◌, ◌||◌, ◌+◌, ◌-◌, ℕ, Bool, true, false, Option, None, Some, MatchOption, arith, refl, sym, ap, inl, inr, nat_le, true≢false}
use Rattle.std.specs.Prelude.{if◌then◌else◌}
use Rattle.std.proofs.lemmas.Bool.Decides.{nat_tests}
use Rattle.sdr_base.specs.declared.refusal.Reason.{Reason}
use Rattle.sdr_base.specs.declared.refusal.Reason.TheVariants as reasons
use Rattle.sdr_base.specs.declared.refusal.Refusal.TheVariants as refusals
use Rattle.sdr_model.specs.Dry.{StepsDry, StopsReading}
use Rattle.sdr_model.specs.declared.answer.Answer.{Answer}
use Rattle.sdr_model.specs.declared.answer.Answer.TheVariants as answers
use Rattle.sdr_model.specs.declared.answer.Close.{Close}
use Rattle.sdr_model.specs.declared.answer.Reply.{Reply}
use Rattle.sdr_model.specs.declared.answer.Reply.TheVariants as replies
use Rattle.sdr_model.specs.declared.call.Call.{Call}
use Rattle.sdr_model.specs.declared.event.Event.{Event}
use Rattle.sdr_model.specs.declared.event.Event.TheVariants as events
use Rattle.sdr_model.specs.declared.journal.Said.{Said}
use Rattle.sdr_machine.specs.Core.{closed_by, is_failed, is_passed_over}
use Rattle.sdr_machine.specs.Ground.{Ground, NoHeap, OnHeap, Replied, State, StepsOn}
use Rattle.sdr_machine.specs.Nesting.{comes_to, deepened, deepest, doomed_for}
use Rattle.sdr_machine.specs.Transaction.{Becomes, Replies, OpenTransaction, Transacts, asks_disk, is_closing}
use Rattle.sdr_machine.specs.declared.nesting.Nesting.{Nesting}
use Rattle.sdr_machine.proofs.ServedLemmas.{noted_depth}
use Rattle.law_runs.specs.Replying.{is_of_call}
use Rattle.law_runs.proofs.RowReplies.{row_fair, step_fair, stops_fair}

-- whether an event that is answered so stands in no transaction
abbrev pub passes : Event → Answer → Bool
passes event answer = is_passed_over event answer || is_failed answer

-- a call answers for itself on any ground
steps_fair : (g : Ground) (s : State) (call : Call) (o : Replied) → StepsOn g s call o → is_of_call o.reply ≡ true
steps_fair NoHeap s call o steps = by steps.step
  where
    by : StepsDry s.world call o.moves o.after.world o.reply ⊎ StopsReading s.world call o.moves o.after.world o.reply → is_of_call o.reply ≡ true
    by (inl dry) = row_fair s.world (record { moves = o.moves; after = record o.after.world { taken = s.world.taken }; reply = o.reply }) call dry.step
    by (inr stops) = stops_fair s.world (record { moves = o.moves; after = o.after.world; reply = o.reply }) call stops.stopped
steps_fair (OnHeap room P) s call o steps = step_fair s.world o.after.world call o.moves o.reply steps.step

-- the reply to a call stands in its transaction, and doesn't close it
fair_within : (call : Call) (reply : Reply) → is_of_call reply ≡ true
    → (passes (events.Say call) (answers.Reply reply) ≡ false) × (closed_by (answers.Reply reply) ≡ None)
fair_within call replies.DiskFault fair = absurd (true≢false (sym fair))
fair_within call (replies.Failed moment) fair = absurd (true≢false (sym fair))
fair_within call (replies.Refused refusals.NotBegun) fair = absurd (true≢false (sym fair))
fair_within call (replies.Refused (refusals.Suspended serving mine)) fair = absurd (true≢false (sym fair))
fair_within call (replies.Refused refusal) fair = (refl, refl)
fair_within call reply fair = (refl, refl)

-- what an event is answered that goes on in a transaction
pub record IsWithin (event : Event) (answer : Answer) : Type 0 where
  pub inside : passes event answer ≡ false
  pub open_still : closed_by answer ≡ None
  pub unlooked : (ticket : ℕ) → event ≡ events.Look ticket → (mine : ℕ) × (answer ≡ answers.Reply (replies.Refused (refusals.InTransaction mine)))

answered_within : (event : Event) (answer other : Answer) → answer ≡ other → (passes event other ≡ false) × (closed_by other ≡ None)
    → ((ticket : ℕ) → event ≡ events.Look ticket → (mine : ℕ) × (other ≡ answers.Reply (replies.Refused (refusals.InTransaction mine))))
    → IsWithin event answer
answered_within event answer other is within look = record {
  inside = ap (passes event) is ∙ within.0;
  open_still = ap closed_by is ∙ within.1;
  unlooked = λ ticket e. let l : (mine : ℕ) × (other ≡ answers.Reply (replies.Refused (refusals.InTransaction mine))) = look ticket e in (l.0, is ∙ l.1);
}

deepened_within : (n : Nesting) → (passes events.Begin (deepened n).answer ≡ false) × (closed_by (deepened n).answer ≡ None)
deepened_within n = by (nat_le deepest n.depth)
  where
    by : (b : Bool) → (passes events.Begin (if b then record { answer = answers.Reply (replies.Refused refusals.TooDeep); after = doomed_for (reasons.Refused 23) n } else comes_to n (n.depth + 1)).answer ≡ false)
        × (closed_by (if b then record { answer = answers.Reply (replies.Refused refusals.TooDeep); after = doomed_for (reasons.Refused 23) n } else comes_to n (n.depth + 1)).answer ≡ None)
    by true = (refl, refl)
    by false = (refl, refl)

pub transacts_within : (t : OpenTransaction) (event : Event) (said : Said) (t' : OpenTransaction) → Transacts t event said t' → IsWithin event said.answer
transacts_within t events.Request said t' h = absurd h
transacts_within t events.Begin said t' h = answered_within events.Begin said.answer _ h.told.answer (deepened_within t.nesting) (λ ticket e. absurd cc)
transacts_within t (events.Say call) said t' h = by t.nesting.doom h
  where
    by : (o : Option Reason) → MatchOption o (Replies t call said t') (λ reason. Becomes said t' (answers.Reply (replies.Refused (refusals.Doomed reason))) t)
        → IsWithin (events.Say call) said.answer
    by None replied =
        answered_within (events.Say call) said.answer (answers.Reply replied.done.reply) replied.answer
        (fair_within call replied.done.reply (steps_fair t.state.base t.state call replied.done replied.steps)) (λ ticket e. absurd cc)
    by (Some reason) becomes = answered_within (events.Say call) said.answer _ becomes.told.answer (refl, refl) (λ ticket e. absurd cc)
transacts_within t events.End said t' h = answered_within events.End said.answer _ h.told.answer (refl, refl) (λ ticket e. absurd cc)
transacts_within t events.Exit said t' h = answered_within events.Exit said.answer _ h.told.answer (refl, refl) (λ ticket e. absurd cc)
transacts_within t events.Cancel said t' h = answered_within events.Cancel said.answer _ h.told.answer (refl, refl) (λ ticket e. absurd cc)
transacts_within t (events.Look ticket) said t' h =
    answered_within (events.Look ticket) said.answer _ h.told.answer (refl, refl) (λ other e. (t.number, refl))
transacts_within t (events.Leaves leave) said t' h = absurd h

-- the transaction keeps its number, and is still open
pub record StaysOpen (t t' : OpenTransaction) : Type 0 where
  pub number : t'.number ≡ t.number
  pub depth : (t'.nesting.depth == 0) ≡ false

becomes_open : (t t' next : OpenTransaction) → t' ≡ next → next.number ≡ t.number → (next.nesting.depth == 0) ≡ false → StaysOpen t t'
becomes_open t t' next is number depth = record {
  number = ap (λ (x : OpenTransaction). x.number) is ∙ number;
  depth = ap (λ (x : OpenTransaction). x.nesting.depth == 0) is ∙ depth;
}

deepened_open : (n : Nesting) → (n.depth == 0) ≡ false → ((deepened n).after.depth == 0) ≡ false
deepened_open n there = by (nat_le deepest n.depth)
  where
    by : (b : Bool) → ((if b then record { answer = answers.Reply (replies.Refused refusals.TooDeep); after = doomed_for (reasons.Refused 23) n } else comes_to n (n.depth + 1)).after.depth == 0) ≡ false
    by true = there
    by false = grind (arith, nat_tests)

less_open : (depth : ℕ) → nat_le depth 1 ≡ false → (depth - 1 == 0) ≡ false
less_open depth above = grind (arith, nat_tests)

pub transacts_open : (t : OpenTransaction) (event : Event) (said : Said) (t' : OpenTransaction) → Transacts t event said t' → (t.nesting.depth == 0) ≡ false
    → is_closing t event ≡ false → StaysOpen t t'
transacts_open t events.Request said t' h there stays = absurd h
transacts_open t events.Begin said t' h there stays = becomes_open t t' _ h.after refl (deepened_open t.nesting there)
transacts_open t (events.Say call) said t' h there stays = by t.nesting.doom h
  where
    by : (o : Option Reason) → MatchOption o (Replies t call said t') (λ reason. Becomes said t' (answers.Reply (replies.Refused (refusals.Doomed reason))) t) → StaysOpen t t'
    by None replied = becomes_open t t' _ replied.after refl (ap (λ n. n == 0) (noted_depth call replied.done.reply t.nesting) ∙ there)
    by (Some reason) becomes = becomes_open t t' _ becomes.after refl there
transacts_open t events.End said t' h there stays = becomes_open t t' _ h.after refl (less_open t.nesting.depth stays)
transacts_open t events.Exit said t' h there stays = becomes_open t t' _ h.after refl (less_open t.nesting.depth stays)
transacts_open t events.Cancel said t' h there stays = becomes_open t t' _ h.after refl (less_open t.nesting.depth stays)
transacts_open t (events.Look ticket) said t' h there stays = becomes_open t t' _ h.after refl there
transacts_open t (events.Leaves leave) said t' h there stays = absurd h

-- an event that closes a transaction stands in it
pub closing_inside : (t : OpenTransaction) (event : Event) (close : Close) → is_closing t event ≡ true → passes event (answers.Closed close) ≡ false
closing_inside t events.Request close closes = absurd (true≢false (sym closes))
closing_inside t events.Begin close closes = refl
closing_inside t (events.Say call) close closes = refl
closing_inside t events.End close closes = refl
closing_inside t events.Cancel close closes = refl
closing_inside t events.Exit close closes = refl
closing_inside t (events.Look ticket) close closes = refl
closing_inside t (events.Leaves leave) close closes = refl

-- and so does one for which the disk is asked
pub asking_inside : (t : OpenTransaction) (event : Event) → asks_disk t event ≡ true → passes event (answers.Reply replies.DiskFault) ≡ false
asking_inside t events.Request asks = absurd (true≢false (sym asks))
asking_inside t events.Begin asks = refl
asking_inside t (events.Say call) asks = refl
asking_inside t events.End asks = refl
asking_inside t events.Cancel asks = refl
asking_inside t events.Exit asks = refl
asking_inside t (events.Look ticket) asks = refl
asking_inside t (events.Leaves leave) asks = refl
