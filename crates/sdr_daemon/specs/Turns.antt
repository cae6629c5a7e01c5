-- The turns of a daemon: what it does while it holds the lock once, and what its lines say in that.
use Rattle.std.specs.Prelude.{◌≡◌, ◌<◌, ◌⊎◌, ℕ, List, [], ◌∷◌, ◌++◌, ◌==◌, Bool, true, false, filter, ⊤}
use Rattle.sdr_base.specs.declared.refusal.Refusal.TheVariants as refusals
use Rattle.sdr_machine.specs.Transaction.{refused}
use Rattle.sdr_model.specs.declared.answer.Answer.TheVariants as answers
use Rattle.sdr_model.specs.declared.answer.Close.TheVariants as closes
use Rattle.sdr_model.specs.declared.answer.Close.{Close}
use Rattle.sdr_model.specs.declared.answer.Reply.TheVariants as replies
use Rattle.sdr_model.specs.declared.event.Event.TheVariants as events
use Rattle.sdr_model.specs.declared.event.Event.{Event}
use Rattle.sdr_model.specs.declared.event.Leave.{Leave}
use Rattle.sdr_model.specs.declared.journal.Entry.{Entry}
use Rattle.sdr_model.specs.declared.journal.Said.{Said}
use Rattle.sdr_model.specs.declared.journal.What.TheVariants as whats
use Rattle.sdr_model.specs.declared.journal.What.{What}
use Rattle.sdr_model.specs.declared.script.ScriptStep.{ScriptStep}
use Rattle.sdr_text.specs.JournalText.{is_begin}
use Rattle.sdr_words.specs.Bindings.{Binding, bound, event_of}

-- the lines of a daemon
abbrev pub steps_by : ℕ → List ScriptStep → List ScriptStep
steps_by daemon script = filter (λ (step : ScriptStep). step.daemon == daemon) script

-- the entries of a daemon
abbrev pub entries_by : ℕ → List Entry → List Entry
entries_by daemon journal = filter (λ (e : Entry). e.daemon == daemon) journal

-- the line says this: its event under what the names hold
pub record IsLine (names : List Binding) (step : ScriptStep) (s : Said) : Type 0 where
  pub line : s.line ≡ step.line
  pub event : s.event ≡ event_of names step

-- The lines say this in order, and each answer gives its line's name what it holds from then on.
abbrev pub SayLines : List Binding → List ScriptStep → List Said → Type 0
SayLines names [] [] = ⊤
SayLines names (step ∷ steps) (s ∷ said) = IsLine names step s × SayLines (bound names step s.answer) steps said
SayLines names [] (s ∷ said) = ⊥
SayLines names (step ∷ steps) [] = ⊥

-- what the names hold after the lines were answered so
abbrev pub names_after : List Binding → List ScriptStep → List Said → List Binding
names_after names (step ∷ steps) (s ∷ said) = names_after (bound names step s.answer) steps said
names_after names steps said = names

-- what a daemon may do next: anything; or look again at the ticket for which it waits; or make the leave that has closed its transaction
pub data Phase : Type 0 where
  ready : Phase
  waiting : ℕ → Phase
  leaving : Leave → Phase

-- how far a daemon has come: the number of its last entry or refused look, what its names hold, and what it may do next
pub record Reached : Type 0 where
  pub number : ℕ
  pub names : List Binding
  pub phase : Phase

-- before its first line
abbrev pub at_start : Reached
at_start = record { number = 0; names = []; phase = Phase.ready }

-- What a daemon does while it holds the lock once: its lines, what they say, the entries that this gives, the number of the last of these or
-- of a refused look, and what it may do next.
pub record DaemonTurn : Type 0 where
  pub lines : List ScriptStep
  pub said : List Said
  pub entries : List Entry
  pub number : ℕ
  pub phase : Phase

-- how far the daemon has come by a turn
abbrev pub after_turn : Reached → DaemonTurn → Reached
after_turn at t = record { number = t.number; names = names_after at.names t.lines t.said; phase = t.phase }

-- whether a daemon outside a transaction is refused the event: it is neither a begin nor a look
abbrev pub is_refused_outside : Event → Bool
is_refused_outside events.Begin = false
is_refused_outside (events.Look ticket) = false
is_refused_outside event = true

-- whether what is said begins with a begin
abbrev pub opens_work : List Said → Bool
opens_work [] = false
opens_work (s ∷ said) = is_begin s.event

-- the daemon may look at the ticket: it waits for no other
abbrev pub MayLook : ℕ → Phase → Type 0
MayLook ticket phase = (phase ≡ Phase.ready) ⊎ (phase ≡ Phase.waiting ticket)

-- The turn gives one entry, of this, with a higher number than the daemon had before.
pub record GivesEntry (at : Reached) (t : DaemonTurn) (what : What) : Type 0 where
  pub entry : Entry
  pub is : t.entries ≡ entry ∷ []
  pub what_is : entry.what ≡ what
  pub number : t.number ≡ entry.number
  pub higher : at.number < entry.number

-- One thing is said in the turn, a look at the ticket.
pub record SaysLook (t : DaemonTurn) (ticket : ℕ) : Type 0 where
  pub said : Said
  pub is : t.said ≡ said ∷ []
  pub event : said.event ≡ events.Look ticket

-- The entry that a look gives which isn't made again: its ticket is granted, or all daemons have stalled, or the disk failed.
pub data EndsLook (ticket : ℕ) (s : Said) (what : What) : Type 0 where
  awarded : s.answer ≡ answers.Awarded → what ≡ whats.Awarded ticket → EndsLook ticket s what
  stalled : s.answer ≡ answers.Stalled → what ≡ whats.Stalled ticket → EndsLook ticket s what
  failed : s.answer ≡ answers.Reply replies.DiskFault → what ≡ whats.Work (s ∷ []) closes.Faulted → EndsLook ticket s what

-- What a daemon that has come so far may do while it holds the lock once. `R number ticket`: a look at the ticket was refused under the
-- number.
pub data IsTurn (R : ℕ → ℕ → Type 0) (at : Reached) (t : DaemonTurn) : Type 0 where
  -- a line outside a transaction that neither begins one nor looks at a ticket is refused, and gives nothing
  passes : (s : Said) → at.phase ≡ Phase.ready → t.said ≡ s ∷ [] → is_refused_outside s.event ≡ true → s.answer ≡ refused refusals.NotBegun
      → t.entries ≡ [] → t.number ≡ at.number → t.phase ≡ Phase.ready → IsTurn R at t
  -- from a begin on, the lines up to the closing one are all that is said in the transaction
  works : (close : Close) → at.phase ≡ Phase.ready → opens_work t.said ≡ true → GivesEntry at t (whats.Work t.said close) → t.phase ≡ Phase.ready → IsTurn R at t
  -- or the lines up to a leave, which closes it
  cut : (close : Close) (s : Said) (leave : Leave) → at.phase ≡ Phase.ready → opens_work t.said ≡ true → s.line ≡ 0 → s.event ≡ events.Leaves leave
      → GivesEntry at t (whats.Work (t.said ++ s ∷ []) close) → t.phase ≡ Phase.leaving leave → IsTurn R at t
  -- a look at a ticket that waits gives an entry once
  waits : (ticket : ℕ) → at.phase ≡ Phase.ready → t.lines ≡ [] → GivesEntry at t (whats.Waits ticket) → t.phase ≡ Phase.waiting ticket → IsTurn R at t
  -- and the look is made again until its ticket is granted, all daemons have stalled, or the disk fails
  looks : (ticket : ℕ) (by : SaysLook t ticket) (what : What) → MayLook ticket at.phase → GivesEntry at t what → EndsLook ticket by.said what
      → t.phase ≡ Phase.ready → IsTurn R at t
  -- or it is refused, which gives no entry
  refused_look : (ticket : ℕ) (by : SaysLook t ticket) → MayLook ticket at.phase → by.said.answer ≡ refused (refusals.BadTicket ticket) → t.entries ≡ []
      → at.number < t.number → R t.number ticket → t.phase ≡ Phase.ready → IsTurn R at t

-- the turns are taken one after another
abbrev pub TakeTurns : (ℕ → ℕ → Type 0) → Reached → List DaemonTurn → Type 0
TakeTurns R at [] = ⊤
TakeTurns R at (t ∷ turns) = IsTurn R at t × SayLines at.names t.lines t.said × TakeTurns R (after_turn at t) turns

-- how far the daemon has come by them
abbrev pub after_turns : Reached → List DaemonTurn → Reached
after_turns at [] = at
after_turns at (t ∷ turns) = after_turns (after_turn at t) turns
