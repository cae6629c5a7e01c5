-- When a journal keeps to the scripts: each daemon's entries are its lines in order.
use Rattle.std.specs.Prelude.{◌≡◌, ◌<◌, ◌≤◌, ◌⊎◌, ◌+◌, ◌-◌, ◌^◌, ◌&&◌, ℕ, List, [], ◌∷◌, ◌++◌, ◌==◌, All, Bool, true, false, not, filter, flat_map, is_some, length, nat_lt, Option, None, Some, ⊤}
use Rattle.std.specs.List.{AllByRecursion, list_all, list_any}
use Rattle.law_runs.specs.LastEntries.{waited_ticket}
use Rattle.sdr_base.specs.Media.{Told}
use Rattle.sdr_machine.specs.Ground.{State}
use Rattle.sdr_machine.specs.Legal.{Lead, is_fault}
use Rattle.sdr_model.specs.AccountSteps.{pending_of}
use Rattle.sdr_model.specs.declared.event.Event.TheVariants as events
use Rattle.sdr_model.specs.declared.event.Leave.TheVariants as leaves
use Rattle.sdr_model.specs.declared.event.Leave.{Leave}
use Rattle.sdr_model.specs.declared.journal.Entry.{Entry}
use Rattle.sdr_model.specs.declared.journal.What.TheVariants as whats
use Rattle.sdr_model.specs.declared.journal.What.{What}
use Rattle.sdr_model.specs.declared.script.ScriptStep.{ScriptStep}
use Rattle.sdr_words.specs.Bindings.{Binding, event_of}
use Rattle.sdr_words.specs.Daemons.{daemons_of}
use Rattle.sdr_daemon.specs.Turns.{DaemonTurn, Phase, Reached, TakeTurns, after_turns, at_start, entries_by, steps_by}

-- a daemon that waits for a ticket looks next at that ticket
abbrev pub LooksNext : Phase → List Binding → List ScriptStep → Type 0
LooksNext (Phase.waiting ticket) names [] = ⊥
LooksNext (Phase.waiting ticket) names (step ∷ rest) = event_of names step ≡ events.Look ticket
LooksNext phase names rest = ⊤

-- The lines but these last ones gave these entries, turn by turn, and the daemon has come so far.
pub record HasKeptSoFar (R : ℕ → ℕ → Type 0) (steps rest : List ScriptStep) (entries : List Entry) (at : Reached) : Type 0 where
  pub turns : List DaemonTurn
  pub taken : TakeTurns R at_start turns
  pub at_is : at ≡ after_turns at_start turns
  pub steps_are : steps ≡ flat_map (λ (t : DaemonTurn). t.lines) turns ++ rest
  pub entries_are : entries ≡ flat_map (λ (t : DaemonTurn). t.entries) turns
  pub next : LooksNext at.phase at.names rest

-- whether the entry is a wait for a ticket
abbrev pub is_wait : Entry → Bool
is_wait e = is_some (waited_ticket e.what)

-- A daemon with these entries, and with the last of its lines still ahead, may have drawn so many numbers: it has waited for a ticket, and so
-- may have looked at it any number of times, or it has done as many lines.
abbrev pub MayHaveDrawn : ℕ → List Entry → List ScriptStep → List ScriptStep → Type 0
MayHaveDrawn drawn entries steps rest = (list_any is_wait entries ≡ true) ⊎ (drawn + length rest ≤ length steps)

-- A leave of a daemon, behind these entries of its own, has its cause: it is done behind the last line, for a fault behind an entry in which
-- the disk failed, for memory at any time, and spent with a number of 2 ^ 40 or more, where the daemon may have drawn 2 ^ 40 - 1 others.
abbrev pub HasLeaveCause : List Entry → List Entry → List ScriptStep → ℕ → List ScriptStep → Leave → Type 0
HasLeaveCause journal own steps number rest leaves.Done = rest ≡ []
HasLeaveCause journal own steps number rest leaves.Fault = list_any (λ (e : Entry). is_fault e.what && nat_lt e.number number) journal ≡ true
HasLeaveCause journal own steps number rest leaves.Memory = ⊤
HasLeaveCause journal own steps number rest leaves.Spent = (2 ^ 40 ≤ number) × MayHaveDrawn (2 ^ 40 - 1) own steps rest

-- the leave that a daemon is to make, where one has closed its transaction
abbrev pub leave_due : Phase → Option Leave
leave_due (Phase.leaving leave) = Some leave
leave_due phase = None

-- if a daemon means to leave, then for want of memory, or behind its last line
abbrev pub MeansToLeave : List ScriptStep → Option Leave → Type 0
MeansToLeave rest None = ⊤
MeansToLeave rest (Some leaves.Memory) = ⊤
MeansToLeave rest (Some leaves.Done) = rest ≡ []
MeansToLeave rest (Some leave) = ⊥

-- a daemon that is to make a leave makes that one, or leaves for a fault
abbrev pub IsLeaveDue : Option Leave → Leave → Type 0
IsLeaveDue None leave = ⊤
IsLeaveDue (Some due) leave = (leave ≡ due) ⊎ (leave ≡ leaves.Fault)

-- A daemon's entries are those of its lines in order, of all of them unless it left early, and a leave. Where a leave closed
-- its transaction, that came for want of memory, or behind its last line.
pub record DaemonKeepsToScript (R : ℕ → ℕ → Type 0) (journal : List Entry) (steps : List ScriptStep) (entries : List Entry) : Type 0 where
  pub rest : List ScriptStep
  pub before : List Entry
  pub at : Reached
  pub kept : HasKeptSoFar R steps rest before at
  pub last : Entry
  pub all : entries ≡ before ++ last ∷ []
  pub leave : Leave
  pub leaves : last.what ≡ whats.Leaves leave
  pub means : MeansToLeave rest (leave_due at.phase)
  pub due : IsLeaveDue (leave_due at.phase) leave
  pub higher : at.number < last.number
  pub cause : HasLeaveCause journal before steps last.number rest leave

-- A look at the ticket was refused under the number: no entry has this number, and the ticket isn't there after the entries with lower
-- ones.
pub record IsLookRefused (told : Option Told) (daemons : List ℕ) (first : State) (journal : List Entry) (number ticket : ℕ) : Type 0 where
  pub unused : list_all (λ (e : Entry). not (e.number == number)) journal ≡ true
  pub before : State
  pub after : Lead told daemons [] first (filter (λ (e : Entry). nat_lt e.number number) journal) before
  pub none : pending_of before.world ticket ≡ Option.None

-- whether a daemon leaves by this, for want of memory
abbrev pub leaves_for_memory : What → Bool
leaves_for_memory (whats.Leaves leaves.Memory) = true
leaves_for_memory what = false

-- whether the entry is a leave for want of memory
abbrev pub is_memory_leave : Entry → Bool
is_memory_leave e = leaves_for_memory e.what

-- The journal keeps to the scripts of the daemons that the script names: the entries of each keep to its lines, and no other has one.
pub record KeepsToScripts (told : Option Told) (first : State) (script : List ScriptStep) (journal : List Entry) : Type 0 where
  pub each :
      AllByRecursion (λ id. DaemonKeepsToScript (IsLookRefused told (daemons_of script) first journal) journal (steps_by id script) (entries_by id journal))
      (daemons_of script)
  pub others : All (λ (e : Entry). list_any (λ id. id == e.daemon) (daemons_of script) ≡ true) journal
