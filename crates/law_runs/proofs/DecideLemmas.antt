-- A step of the machine is decided, chance aside.
use Rattle.std.proofs.Common.{◌≡◌, ◌⊎◌, ◌∙◌, ◌==◌, ◌&&◌, ◌||◌, ℕ, List, Bool, true, false, Option, None, Some, MatchBool, MatchOption, refl, sym, ap, subst, inl, inr}
use Rattle.sdr_base.specs.Media.{Told}
use Rattle.sdr_base.specs.declared.moves.Move.{Move}
use Rattle.sdr_machine.specs.Agreeing.{AgreesWith}
use Rattle.sdr_machine.specs.Core.{closed_by}
use Rattle.sdr_machine.specs.Machine.{Machine, Made, MachineStep, StepsOf, Closes, Comes, Enters, Faults, FaultsWithin, Goes, Holds, Looks, LooksAt, Proceeds, OnTurn, GoesOnIn, is_outside, roll_closed, with_transaction}
use Rattle.sdr_machine.specs.Nesting.{noted}
use Rattle.sdr_machine.specs.Roll.{Roll, daemon_of, is_stalled, served_number, waits_for, with_drawn}
use Rattle.sdr_machine.specs.Transaction.{Becomes, Replies, OpenTransaction, Transacts, bytes_given, is_closing, is_opening, state_left, transaction_of}
use Rattle.sdr_machine.specs.declared.daemon.Daemon.{Daemon}
use Rattle.sdr_machine.specs.declared.daemon.Holding.{Holding}
use Rattle.sdr_machine.proofs.StepLemmas.{from_option, from_test}
use Rattle.sdr_model.specs.AccountSteps.{pending_of}
use Rattle.sdr_model.specs.declared.answer.Answer.{Answer}
use Rattle.sdr_model.specs.declared.answer.Answer.TheVariants as answers
use Rattle.sdr_model.specs.declared.answer.Reply.TheVariants as replies
use Rattle.sdr_model.specs.declared.call.Call.{Call}
use Rattle.sdr_model.specs.declared.event.Event.{Event}
use Rattle.sdr_model.specs.declared.event.Event.TheVariants as events
use Rattle.law_runs.specs.Choosing.{is_chance}
use Rattle.law_runs.proofs.HeapLemmas.{steps_same}
use Rattle.law_runs.proofs.OutcomeLemmas.{either_first, either_second}
use Rattle.law_runs.proofs.TransactLemmas.{transacts_within}

-- two facts of one test, and of one option
test_pair : {P Q P' Q' R : Type 0} (b : Bool) → MatchBool b P Q → MatchBool b P' Q' → (P → P' → R) → (Q → Q' → R) → R
test_pair true h k f g = f h k
test_pair false h k f g = g h k

option_pair : {T P P' R : Type 0} {Q Q' : T → Type 0} (o : Option T) → MatchOption o P Q → MatchOption o P' Q' → (P → P' → R) → ((x : T) → Q x → Q' x → R) → R
option_pair None h k f g = f h k
option_pair (Some x) h k f g = g x h k

-- a look that was answered met no disk fault
looks_unfaulted : (m : Machine) (d : Daemon) (e : Made) (ticket : ℕ) (roll : Roll) (m' : Machine) → LooksAt m d e ticket roll m' → e.said.answer ≡ answers.Reply replies.DiskFault → ⊥
looks_unfaulted m d e ticket roll m' looks fault =
    from_option (pending_of m.before.world ticket) looks (λ _ goes. other _ goes.told.answer (λ s. cc))
    (λ p _ seen. from_test p.ticket.granted seen (λ _ goes. other _ goes.told.answer (λ s. cc))
    (λ _ waits. from_test (waits_for d ticket && is_stalled m.roll m.before.world) waits
    (λ _ goes. other _ goes.told.answer (λ s. cc)) (λ _ goes. other _ goes.told.answer (λ s. cc))))
  where
    other : (a : Answer) → e.said.answer ≡ a → (a ≡ answers.Reply replies.DiskFault → ⊥) → ⊥
    other a is never = never (sym is ∙ fault)

-- nor did a transaction that closed or went on
closes_unfaulted : (m : Machine) (d : Daemon) (h : Holding) (e : Made) (m' : Machine) → Closes m d h e m' → e.said.answer ≡ answers.Reply replies.DiskFault → ⊥
closes_unfaulted m d h e m' closes fault =
    let s : answers.Closed closes.close ≡ answers.Reply replies.DiskFault = sym closes.closes.told.answer ∙ fault in cc

proceeds_unfaulted : (m : Machine) (d : Daemon) (h : Holding) (event : Event) (e : Made) (m' : Machine) → Proceeds m d h event e m' → e.said.answer ≡ answers.Reply replies.DiskFault → ⊥
proceeds_unfaulted m d h event e m' proceeds fault =
    from_test (is_closing (transaction_of h m.now) event) proceeds (λ _ closes. closes_unfaulted m d h e m' closes fault)
    (λ _ works.
    let within = transacts_within (transaction_of h m.now) event e.said works.after works.transacts in
    let s : closed_by (answers.Reply replies.DiskFault) ≡ None = ap closed_by (sym fault) ∙ within.open_still in
    cc)

-- the event, answered in another way
abbrev pub answered_so : Made → Answer → List ℕ → List Move → Made
answered_so e answer bytes moves = record e { said = record e.said { answer = answer; bytes = bytes; moves = moves } }

-- both ways are one
pub record SameStep (e : Made) (answer : Answer) (bytes : List ℕ) (moves : List Move) (m1 m2 : Machine) : Type 0 where
  pub answer_is : answer ≡ e.said.answer
  pub bytes_are : bytes ≡ e.said.bytes
  pub moves_are : moves ≡ e.said.moves
  pub machine : m2 ≡ m1

-- both are one in a transaction
record SameTransaction (e : Made) (answer : Answer) (bytes : List ℕ) (moves : List Move) (t1 t2 : OpenTransaction) : Type 0 where
  answer_is : answer ≡ e.said.answer
  bytes_are : bytes ≡ e.said.bytes
  moves_are : moves ≡ e.said.moves
  transaction : t2 ≡ t1

module _ (told : Option Told) (m : Machine) (e : Made) (answer : Answer) (bytes : List ℕ) (moves : List Move) (m1 m2 : Machine)
    (media : AgreesWith told m.now.world e.said.event e.said.answer e.said.bytes) (others : AgreesWith told m.now.world e.said.event answer bytes)
    (chance : (is_chance e.said.answer || is_chance answer) ≡ true → (answer ≡ e.said.answer) × (moves ≡ e.said.moves))
    (blind : told ≡ None → bytes ≡ e.said.bytes) where
  abbrev Same : Type 0
  Same = SameStep e answer bytes moves m1 m2

  abbrev again : Made
  again = answered_so e answer bytes moves

  goes_same : (a : Answer) (next : Machine) → Goes e m1 a next → Goes again m2 a next → Same
  goes_same a next one two = record {
    answer_is = two.told.answer ∙ sym one.told.answer;
    bytes_are = two.told.bytes ∙ sym one.told.bytes;
    moves_are = two.told.moves ∙ sym one.told.moves;
    machine = two.after ∙ sym one.after;
  }

  faults_same : (roll : Roll) → Faults m e roll m1 → Faults m again roll m2 → Same
  faults_same roll one two = record {
    answer_is = two.told.answer ∙ sym one.told.answer;
    bytes_are = two.told.bytes ∙ sym one.told.bytes;
    moves_are = two.told.moves ∙ sym one.told.moves;
    machine = two.after ∙ sym one.after;
  }

  -- a disk fault in one way alone
  first_faults : {R : Type 0} → e.said.answer ≡ answers.Reply replies.DiskFault → (answer ≡ answers.Reply replies.DiskFault → ⊥) → R
  first_faults is never = absurd (never ((chance (either_first (is_chance e.said.answer) (is_chance answer) (ap is_chance is))).0 ∙ is))

  second_faults : {R : Type 0} → (e.said.answer ≡ answers.Reply replies.DiskFault → ⊥) → answer ≡ answers.Reply replies.DiskFault → R
  second_faults never is = absurd (never (sym (chance (either_second (is_chance e.said.answer) (is_chance answer) (ap is_chance is))).0 ∙ is))

  looks_at_same : (d : Daemon) (ticket : ℕ) (roll : Roll) → LooksAt m d e ticket roll m1 → LooksAt m d again ticket roll m2 → Same
  looks_at_same d ticket roll one two =
      option_pair (pending_of m.before.world ticket) one two (λ g k. goes_same _ _ g k)
      (λ p s t. test_pair p.ticket.granted s t (λ g k. goes_same _ _ g k)
      (λ v w. test_pair (waits_for d ticket && is_stalled m.roll m.before.world) v w (λ g k. goes_same _ _ g k) (λ g k. goes_same _ _ g k)))

  looks_same : (d : Daemon) (ticket : ℕ) (roll : Roll) → Looks m d e ticket roll m1 → Looks m d again ticket roll m2 → Same
  looks_same d ticket roll (inl one) (inl two) = looks_at_same d ticket roll one two
  looks_same d ticket roll (inr one) (inr two) = faults_same _ one two
  looks_same d ticket roll (inl one) (inr two) = second_faults (looks_unfaulted m d e ticket roll m1 one) two.told.answer
  looks_same d ticket roll (inr one) (inl two) = first_faults one.told.answer (looks_unfaulted m d again ticket roll m2 two)

  comes_same : (d : Daemon) (event : Event) → Comes m d event e m1 → Comes m d event again m2 → Same
  comes_same d events.Request one two = goes_same _ _ one two
  comes_same d events.Begin one two = goes_same _ _ one two
  comes_same d (events.Look ticket) one two =
      test_pair (served_number m.roll == 0) one two (λ s t. looks_same d ticket (with_drawn m.roll) s t) (λ s t. goes_same _ _ s t)
  comes_same d (events.Leaves leave) one two = test_pair (served_number m.roll == 0) one two (λ s t. goes_same _ _ s t) (λ s t. goes_same _ _ s t)
  comes_same d event one two = goes_same _ _ one two

  closes_same : (d : Daemon) (h : Holding) → Closes m d h e m1 → Closes m d h again m2 → Same
  closes_same d h one two =
      let close : two.close ≡ one.close = two.closes.how ∙ sym one.closes.how in
      let left : two.left ≡ one.left = two.closes.left ∙ ap (λ c. state_left c m.before m.now) close ∙ sym one.closes.left in
      record {
        answer_is = two.closes.told.answer ∙ ap answers.Closed close ∙ sym one.closes.told.answer;
        bytes_are = two.closes.told.bytes ∙ sym one.closes.told.bytes;
        moves_are = two.closes.told.moves ∙ sym one.closes.told.moves;
        machine = two.after ∙ (λ i. record { roll = roll_closed m.roll d; before = left i; now = left i }) ∙ sym one.after;
      }

  becomes_same : (t1 t2 : OpenTransaction) (a : Answer) (next : OpenTransaction) → Becomes e.said t1 a next → Becomes again.said t2 a next → SameTransaction e answer bytes moves t1 t2
  becomes_same t1 t2 a next one two = record {
    answer_is = two.told.answer ∙ sym one.told.answer;
    bytes_are = two.told.bytes ∙ sym one.told.bytes;
    moves_are = two.told.moves ∙ sym one.told.moves;
    transaction = two.after ∙ sym one.after;
  }

  replies_same : (h : Holding) (call : Call) (t1 t2 : OpenTransaction) → e.said.event ≡ events.Say call → Replies (transaction_of h m.now) call e.said t1 → Replies (transaction_of h m.now) call again.said t2
      → SameTransaction e answer bytes moves t1 t2
  replies_same h call t1 t2 is one two =
      let same : two.done ≡ one.done =
      steps_same told m.now.base m.now call one.done two.done e.said.answer answer e.said.bytes bytes one.steps two.steps
      (record { answer_is = one.answer; bytes_are = one.bytes; media = subst (λ ev. AgreesWith told m.now.world ev e.said.answer e.said.bytes) is media })
      (record { answer_is = two.answer; bytes_are = two.bytes; media = subst (λ ev. AgreesWith told m.now.world ev answer bytes) is others })
      blind (λ is. ((chance is).0, sym two.moves ∙ (chance is).1 ∙ one.moves)) in
      let answer_same : answer ≡ e.said.answer = two.answer ∙ ap (λ o. answers.Reply o.reply) same ∙ sym one.answer in
      record {
        answer_is = answer_same;
        bytes_are = two.bytes ∙ (λ i. bytes_given (answer_same i) (same i).after.world.shown) ∙ sym one.bytes;
        moves_are = two.moves ∙ ap (λ o. o.moves) same ∙ sym one.moves;
        transaction =
            two.after ∙ (λ i. record (transaction_of h m.now) { nesting = noted call (same i).reply h.nesting; state = (same i).after }) ∙ sym one.after;
      }

  transacts_same : (h : Holding) (event : Event) (t1 t2 : OpenTransaction) → e.said.event ≡ event → Transacts (transaction_of h m.now) event e.said t1 → Transacts (transaction_of h m.now) event again.said t2
      → SameTransaction e answer bytes moves t1 t2
  transacts_same h events.Request t1 t2 is one two = absurd one
  transacts_same h events.Begin t1 t2 is one two = becomes_same t1 t2 _ _ one two
  transacts_same h (events.Say call) t1 t2 is one two =
      option_pair h.nesting.doom one two (λ s t. replies_same h call t1 t2 is s t) (λ reason s t. becomes_same t1 t2 _ _ s t)
  transacts_same h events.End t1 t2 is one two = becomes_same t1 t2 _ _ one two
  transacts_same h events.Exit t1 t2 is one two = becomes_same t1 t2 _ _ one two
  transacts_same h events.Cancel t1 t2 is one two = becomes_same t1 t2 _ _ one two
  transacts_same h (events.Look ticket) t1 t2 is one two = becomes_same t1 t2 _ _ one two
  transacts_same h (events.Leaves leave) t1 t2 is one two = absurd one

  works_same : (d : Daemon) (h : Holding) (event : Event) → e.said.event ≡ event → GoesOnIn m d h event e m1 → GoesOnIn m d h event again m2 → Same
  works_same d h event is one two =
      let same = transacts_same h event one.after two.after is one.transacts two.transacts in
      record {
        answer_is = same.answer_is;
        bytes_are = same.bytes_are;
        moves_are = same.moves_are;
        machine = two.others ∙ ap (with_transaction m d h) same.transaction ∙ sym one.others;
      }

  proceeds_same : (d : Daemon) (h : Holding) (event : Event) → e.said.event ≡ event → Proceeds m d h event e m1 → Proceeds m d h event again m2 → Same
  proceeds_same d h event is one two =
      test_pair (is_closing (transaction_of h m.now) event) one two (λ s t. closes_same d h s t) (λ s t. works_same d h event is s t)

  serves_same : (d : Daemon) (h : Holding) (event : Event) → e.said.event ≡ event → OnTurn m d h event e m1 → OnTurn m d h event again m2 → Same
  serves_same d h event is one two = test_pair (is_opening (transaction_of h m.now) event) one two (λ s t. goes_same _ _ s t) either
    where
      either : Proceeds m d h event e m1 ⊎ FaultsWithin m d h event e m1 → Proceeds m d h event again m2 ⊎ FaultsWithin m d h event again m2 → Same
      either (inl s) (inl t) = proceeds_same d h event is s t
      either (inr s) (inr t) = faults_same _ s.faults t.faults
      either (inl s) (inr t) = second_faults (proceeds_unfaulted m d h event e m1 s) t.faults.told.answer
      either (inr s) (inl t) = first_faults s.faults.told.answer (proceeds_unfaulted m d h event again m2 t)

  enters_same : (d : Daemon) (h : Holding) (event : Event) → e.said.event ≡ event → Enters m d h event e m1 → Enters m d h event again m2 → Same
  enters_same d h event is one two =
      test_pair (is_outside h event) one two (λ s t. goes_same _ _ s t)
      (λ s t. test_pair (served_number m.roll == h.number) s t (λ x y. serves_same d h event is x y) (λ x y. goes_same _ _ x y))

  ends_same : (d : Daemon) (h : Holding) (event : Event) → Closes m d h e m1 ⊎ FaultsWithin m d h event e m1 → Closes m d h again m2 ⊎ FaultsWithin m d h event again m2 → Same
  ends_same d h event (inl s) (inl t) = closes_same d h s t
  ends_same d h event (inr s) (inr t) = faults_same _ s.faults t.faults
  ends_same d h event (inl s) (inr t) = second_faults (closes_unfaulted m d h e m1 s) t.faults.told.answer
  ends_same d h event (inr s) (inl t) = first_faults s.faults.told.answer (closes_unfaulted m d h again m2 t)

  holds_same : (d : Daemon) (h : Holding) (event : Event) → e.said.event ≡ event → Holds m d h event e m1 → Holds m d h event again m2 → Same
  holds_same d h events.Request is one two = goes_same _ _ one two
  holds_same d h (events.Look ticket) is one two =
      test_pair (h.nesting.depth == 0) one two
      (λ s t. test_pair (served_number m.roll == h.number) s t (λ x y. looks_same d ticket m.roll x y) (λ x y. goes_same _ _ x y)) (λ s t. goes_same _ _ s t)
  holds_same d h (events.Leaves leave) is one two =
      test_pair (served_number m.roll == h.number) one two
      (λ s t. test_pair (h.nesting.depth == 0) s t (λ x y. goes_same _ _ x y) (λ x y. ends_same d h (events.Leaves leave) x y)) (λ s t. goes_same _ _ s t)
  holds_same d h event is one two = enters_same d h event is one two

  answers_same : StepsOf m e m1 → StepsOf m again m2 → Same
  answers_same one two =
      option_pair (daemon_of m.roll e.daemon) one two (λ s t. goes_same _ _ s t)
      (λ d s t. test_pair d.left s t (λ x y. goes_same _ _ x y)
      (λ x y. option_pair d.holds x y (λ v w. comes_same d e.said.event v w) (λ h v w. holds_same d h e.said.event refl v w)))

  pub step_same : MachineStep m e m1 → MachineStep m again m2 → Same
  step_same one two = option_pair m.roll.failed one two (λ s t. answers_same s t) (λ moment s t. goes_same _ _ s t)
