-- A transaction: what its events do to its nesting and the state.
use Rattle.std.specs.Prelude.{◌≡◌, ℕ, List, [], ◌∷◌, Bool, true, false, Option, is_none, nat_le, ◌==◌, MatchOption}
use Rattle.sdr_base.specs.declared.refusal.Refusal.{Refusal}
use Rattle.sdr_base.specs.declared.refusal.Refusal.TheVariants as refusals
use Rattle.sdr_base.specs.Media.{Told}
use Rattle.sdr_machine.specs.Agreeing.{AgreesWith}
use Rattle.sdr_model.specs.declared.answer.Answer.{Answer}
use Rattle.sdr_model.specs.declared.answer.Answer.TheVariants as answers
use Rattle.sdr_model.specs.declared.answer.Close.{Close}
use Rattle.sdr_model.specs.declared.answer.Close.TheVariants as closes
use Rattle.sdr_model.specs.declared.answer.Reply.TheVariants as replies
use Rattle.sdr_model.specs.declared.call.Call.{Call}
use Rattle.sdr_model.specs.declared.event.Event.{Event}
use Rattle.sdr_model.specs.declared.event.Event.TheVariants as events
use Rattle.sdr_model.specs.declared.journal.Said.{Said}
use Rattle.sdr_machine.specs.Nesting.{Inner, cancelled, closing, deepened, ended, nested, noted}
use Rattle.sdr_machine.specs.declared.daemon.Holding.{Holding}
use Rattle.sdr_machine.specs.declared.nesting.Nesting.{Nesting}
use Rattle.sdr_machine.specs.Ground.{State, HasHeap, Replied, Steps, committed, rolled_back}

-- the answer is this refusal
abbrev pub refused : Refusal → Answer
refused refusal = answers.Reply (replies.Refused refusal)

-- an open transaction: its lock number, its nesting, and the state as it has made it
pub record OpenTransaction : Type 0 where
  pub number : ℕ
  pub nesting : Nesting
  pub state : State

-- the transaction under a number that is held, where it has made this state
abbrev pub transaction_of : Holding → State → OpenTransaction
transaction_of h s = record { number = h.number; nesting = h.nesting; state = s }

-- a transaction that has just begun under a number
abbrev pub begun_under : ℕ → State → OpenTransaction
begun_under number s = record { number = number; nesting = nested 1; state = s }

-- what was said has this answer, no moves and no bytes
pub record IsAnswered (said : Said) (given : Answer) : Type 0 where
  pub answer : said.answer ≡ given
  pub moves : said.moves ≡ []
  pub bytes : said.bytes ≡ []

-- what was said has this answer, no moves and no bytes, and the transaction is then this
pub record Becomes (said : Said) (t' : OpenTransaction) (answer : Answer) (next : OpenTransaction) : Type 0 where
  pub told : IsAnswered said answer
  pub after : t' ≡ next

-- An inner event is answered, and only the nesting changes.
abbrev pub Nests : OpenTransaction → Said → OpenTransaction → Inner → Type 0
Nests t said t' inner = Becomes said t' inner.answer (record t { nesting = inner.after })

-- the bytes that a call gave by which these are shown, none where it isn't answered
abbrev pub bytes_given : Answer → List ℕ → List ℕ
bytes_given (answers.Reply (replies.Refused refusal)) shown = []
bytes_given (answers.Reply replies.MediaFault) shown = []
bytes_given answer shown = shown

-- The call comes to a reply by a step of the machine.
pub record Replies (t : OpenTransaction) (call : Call) (said : Said) (t' : OpenTransaction) : Type 0 where
  pub done : Replied
  pub steps : Steps t.state call done
  pub answer : said.answer ≡ answers.Reply done.reply
  pub moves : said.moves ≡ done.moves
  pub bytes : said.bytes ≡ bytes_given said.answer done.after.world.shown
  pub after : t' ≡ record t { nesting = noted call done.reply t.nesting; state = done.after }

-- A call of a doomed transaction is refused. Any other is one step of the machine.
abbrev pub Says : OpenTransaction → Call → Said → OpenTransaction → Type 0
Says t call said t' =
    MatchOption t.nesting.doom
    (Replies t call said t')
    (λ reason. Becomes said t' (refused (refusals.Doomed reason)) t)

-- A look in a transaction is refused, and dooms nothing.
abbrev pub LooksInside : OpenTransaction → Said → OpenTransaction → Type 0
LooksInside t said t' = Becomes said t' (refused (refusals.InTransaction t.number)) t

-- An event that neither opens nor closes the transaction.
abbrev pub Transacts : OpenTransaction → Event → Said → OpenTransaction → Type 0
Transacts t events.Begin said t' = Nests t said t' (deepened t.nesting)
Transacts t (events.Say call) said t' = Says t call said t'
Transacts t events.End said t' = Nests t said t' (ended t.nesting)
Transacts t events.Exit said t' = Nests t said t' (ended t.nesting)
Transacts t events.Cancel said t' = Nests t said t' (cancelled t.nesting)
Transacts t (events.Look ticket) said t' = LooksInside t said t'
Transacts t event said t' = ⊥

-- the event is the transaction's first begin
abbrev pub is_opening : OpenTransaction → Event → Bool
is_opening t events.Begin = t.nesting.depth == 0
is_opening t event = false

-- the event closes the transaction: it is the outermost end, cancel or exit, or a leave
abbrev pub is_closing : OpenTransaction → Event → Bool
is_closing t events.End = nat_le t.nesting.depth 1
is_closing t events.Cancel = nat_le t.nesting.depth 1
is_closing t events.Exit = nat_le t.nesting.depth 1
is_closing t (events.Leaves leave) = true
is_closing t event = false

-- whether the disk is asked for the event: it is a call of a transaction that isn't doomed, or closes it
abbrev pub asks_disk : OpenTransaction → Event → Bool
asks_disk t (events.Say call) = is_none t.nesting.doom
asks_disk t event = is_closing t event

-- the state that a closed transaction leaves, where it was this before
abbrev pub state_left : Close → State → State → State
state_left closes.Ended before now = committed now
state_left close before now = rolled_back before now

-- what was said closes the transaction so, and leaves this state
pub record ClosesSo (before : State) (t : OpenTransaction) (said : Said) (close : Close) (after : State) : Type 0 where
  pub how : close ≡ closing t.nesting said.event
  pub told : IsAnswered said (answers.Closed close)
  pub left : after ≡ state_left close before t.state

-- The disk fails as this is said, and nothing follows it: the state before is left.
pub record FaultsSo (before : State) (said : Said) (close : Close) (after : State) : Type 0 where
  pub heap : HasHeap before.base
  pub how : close ≡ closes.Faulted
  pub told : IsAnswered said (answers.Reply replies.DiskFault)
  pub left : after ≡ before

-- what was said last ends the transaction so, and leaves this state
pub data Finishes (before : State) (t : OpenTransaction) (said : Said) (close : Close) (left : State) : Type 0 where
  closed : is_closing t said.event ≡ true → ClosesSo before t said close left → Finishes before t said close left
  faulted : asks_disk t said.event ≡ true → FaultsSo before said close left → Finishes before t said close left

-- What was said first in the rest of a transaction, where media tell this, and what of the rest then holds.
pub record SaysThen (told : Option Told) (t : OpenTransaction) (said : Said) (Then : OpenTransaction → Type 0) : Type 0 where
  pub next : OpenTransaction
  pub goes_on : is_closing t said.event ≡ false
  pub transacts : Transacts t said.event said next
  pub media : AgreesWith told t.state.world said.event said.answer said.bytes
  pub rest : Then next

-- from t on this is all that is said, the transaction closes so, and leaves this state
abbrev pub GoesOn : Option Told → State → OpenTransaction → List Said → Close → State → Type 0
GoesOn told before t [] close left = ⊥
GoesOn told before t (said ∷ []) close left = Finishes before t said close left
GoesOn told before t (said ∷ more) close left = SaysThen told t said (λ next. GoesOn told before next more close left)

-- the first begin, which answers the lock number
pub record IsOpening (number : ℕ) (said : Said) : Type 0 where
  pub event : said.event ≡ events.Begin
  pub answer : IsAnswered said (answers.Lock number)

-- a look that met a disk fault
pub record LooksInVain (before : State) (said : Said) (close : Close) (left : State) : Type 0 where
  pub ticket : ℕ
  pub event : said.event ≡ events.Look ticket
  pub faults : FaultsSo before said close left

-- A transaction under a lock number, from its first begin to its close, from one state to another, where media tell this.
-- A look that met a disk fault stands alone.
abbrev pub Runs : Option Told → State → ℕ → List Said → Close → State → Type 0
Runs told before number [] close left = ⊥
Runs told before number (said ∷ []) close left = LooksInVain before said close left
Runs told before number (said ∷ more) close left = IsOpening number said × GoesOn told before (begun_under number before) more close left
