-- What a turn of a daemon does to a core and to the daemon's progress.
use Rattle.std.specs.Prelude.{◌≡◌, ◌<◌, ◌≤◌, ◌⊎◌, ◌^◌, ◌+◌, ℕ, List, [], ◌∷◌, Bool, false, not, true, Option, None, Some, IsSome, is_some, length, slice_get, slice_index_or, slice_set, ⊤}
use Rattle.std.specs.Option.{option_map_or}
use Rattle.sdr_core.specs.CoreKept.{KeepsRun, LoggedLock, MakesCoreStep, RunStart}
use Rattle.sdr_daemon.specs.declared.turn.LineOutcome.TheVariants as outcomes
use Rattle.sdr_machine.specs.Core.{closed_by, has_left}
use Rattle.sdr_machine.specs.Crash.{is_sound}
use Rattle.sdr_machine.specs.Holders.{hold_none}
use Rattle.sdr_machine.specs.Roll.{Roll, daemon_of}
use Rattle.sdr_machine.specs.declared.came.Came.{Came}
use Rattle.sdr_machine.specs.declared.daemon.Daemon.{Daemon}
use Rattle.sdr_machine.specs.declared.has_ground.HasGround.{Ghosts}
use Rattle.sdr_model.specs.declared.answer.Answer.{Answer}
use Rattle.sdr_model.specs.declared.event.Event.{Event}
use Rattle.sdr_model.specs.declared.event.Leave.TheVariants as leaves
use Rattle.sdr_model.specs.declared.event.Leave.{Leave}
use Rattle.sdr_model.specs.declared.journal.Entry.{Entry}
use Rattle.sdr_model.specs.declared.script.ScriptStep.{ScriptStep}
use Rattle.sdr_words.specs.Bindings.{bound, event_of}
use Rattle.sdr_daemon.specs.Coming.{coming_at, coming_of}
use Rattle.sdr_daemon.specs.Progressing.{IsOnWay, ProgressHolds, ScriptedCore, steps_ahead}
use Rattle.sdr_daemon.specs.TurnEvents.{BeforeTurn, IsOver, before_of}
use Rattle.sdr_daemon.specs.declared.coming.Coming.TheVariants as comings
use Rattle.sdr_daemon.specs.declared.coming.Coming.{Coming}
use Rattle.sdr_daemon.specs.declared.script_place.ScriptPlace.{ScriptPlace}
use Rattle.sdr_daemon.specs.declared.turn.LineOutcome.{LineOutcome}

-- A daemon that hasn't left, and is this in the roll, is about to take a turn. No number is held, and no transaction is open.
pub record IsBeforeTurn {T : Type 0} (g : Ghosts T) (b : RunStart) (script : List ScriptStep) (x : Daemon) (k : LoggedLock T) (s : ScriptPlace) : Type 0 where
  pub run : KeepsRun g b k
  pub found : daemon_of k.lock.roll s.daemon ≡ Some x
  pub stays : x.left ≡ false
  pub free : hold_none k.lock.roll.daemons ≡ true
  pub unsaid : k.log.works ≡ []
  pub way : IsOnWay b script k.lock.roll k.log.journal x s
  pub failed : is_some k.lock.roll.failed ≡ not (is_sound k.log.journal)
  pub drawn : s.drawn ≤ k.lock.roll.drawn
  pub within : s.place ≤ length script

-- none of these entries, or one of the daemon, with its next number
pub data AddsAtMostOne (o : BeforeTurn) (entries : List Entry) : Type 0 where
  none : entries ≡ [] → AddsAtMostOne o entries
  one : (e : Entry) → entries ≡ e ∷ [] → e.number ≡ o.roll.drawn + 1 → e.daemon ≡ o.daemon.id → AddsAtMostOne o entries

-- The turn does what comes, where the core was `old` and the daemon at `s` before it, and they are `new` and `s'` behind it. Where the daemon
-- passes over a line, it draws no number, and the core stays. Where it comes with a line, or to leave, it draws one; or memory was wanting
-- for the line: then the core stays, and the daemon means to leave, so its leave is next.
pub data DoesComing {T : Type 0} (coming : Coming) (old new : LoggedLock T) (s s' : ScriptPlace) : Type 0 where
  passes : coming ≡ comings.Passes → new ≡ old → s.place < s'.place → s'.drawn ≡ s.drawn → DoesComing coming old new s s'
  draws : (line : ℕ) → coming ≡ comings.Comes s.daemon line → new.lock.roll.drawn ≡ old.lock.roll.drawn + 1 → s'.drawn ≡ s.drawn + 1
      → DoesComing coming old new s s'
  starves : (line : ℕ) → coming ≡ comings.Comes s.daemon line → new ≡ old → s.leaving ≡ None → s' ≡ record s { leaving = Some leaves.Memory }
      → DoesComing coming old new s s'

-- The turn of the daemon that was this in the roll was taken: it is over with at most one entry and one number more, it did what came, the
-- daemon's progress holds again, and each number that was drawn is counted there.
pub record EndsTurn {T : Type 0} (b : RunStart) (script : List ScriptStep) (old : LoggedLock T) (x : Daemon) (new : LoggedLock T) (s s' : ScriptPlace) : Type 0 where
  pub entries : List Entry
  pub after : Daemon
  pub drawn : ℕ
  pub over : IsOver (before_of old x) entries after drawn new.lock.roll new.log
  pub next : AddsAtMostOne (before_of old x) entries
  pub more : old.lock.roll.drawn ≤ drawn
  pub few : drawn ≤ old.lock.roll.drawn + 1
  pub does : DoesComing (coming_of old.lock.roll script s) old new s s'
  pub holds : ProgressHolds b script new.lock.roll new.log.journal s'
  pub same : s'.daemon ≡ s.daemon
  pub counted : drawn + s.drawn ≤ old.lock.roll.drawn + s'.drawn

-- whatever the daemon was before, it has taken a turn
abbrev pub TakesTurn : {T : Type 0} → Ghosts T → RunStart → List ScriptStep → LoggedLock T → LoggedLock T → ScriptPlace → ScriptPlace → Type 0
TakesTurn g b script old new s s' = (x : Daemon) → IsBeforeTurn g b script x old s → EndsTurn b script old x new s s'

-- whether no daemon at a place takes turns: there is none, or it has left
abbrev pub is_gone : {T : Type 0} → ℕ → ScriptedCore T → Bool
is_gone place v = option_map_or (λ (s : ScriptPlace). has_left v.core.lock.roll s.daemon) (slice_get v.progress place) true

-- The daemon at a place has taken a turn, which did what came there, and by which its progress has come to this. That of all others is as it
-- was.
pub record TurnsAt {T : Type 0} (b : RunStart) (script : List ScriptStep) (place : ℕ) (old new : ScriptedCore T) : Type 0 where
  pub daemon : Daemon
  pub own : ScriptPlace
  pub found : daemon_of old.core.lock.roll (slice_index_or old.progress place own).daemon ≡ Some daemon
  pub ends : EndsTurn b script old.core daemon new.core (slice_index_or old.progress place own) own
  pub does : DoesComing (coming_at script place old) old.core new.core (slice_index_or old.progress place own) own
  pub others : new.progress ≡ slice_set old.progress place own

-- the daemon leaves in its next turn
abbrev pub LeavesNext : Roll → List ScriptStep → ScriptPlace → Type 0
LeavesNext r script s = coming_of r script s ≡ comings.Comes s.daemon 0

-- a daemon may leave so
abbrev pub MayDepart : Roll → List ScriptStep → ScriptPlace → Leave → Type 0
MayDepart r script s leaves.Done = steps_ahead script s.daemon s.place ≡ []
MayDepart r script s leaves.Fault = IsSome r.failed
MayDepart r script s leaves.Memory = ⊤
MayDepart r script s leaves.Spent = 2 ^ 40 ≤ s.drawn + 1

-- A line is done: its place is left behind, and its name holds what the answer gave it, or there was no memory for that.
pub record DoesLine (step : ScriptStep) (after : ℕ) (answer : Answer) (s s' : ScriptPlace) : Type 0 where
  pub place : s'.place ≡ after
  pub daemon : s'.daemon ≡ s.daemon
  pub drawn : s'.drawn ≡ s.drawn
  pub names : ((s'.leaving ≡ s.leaving) × (s'.names ≡ bound s.names step answer)) ⊎ (s'.leaving ≡ Some leaves.Memory)

-- what came of a line that was answered so, where the daemon meant to leave or not, and means to leave then or not
abbrev pub GoesBy : LineOutcome → Answer → Option Leave → Option Leave → Type 0
GoesBy outcomes.On answer was leaving = (closed_by answer ≡ None) × (leaving ≡ was)
GoesBy outcomes.Closed answer was leaving = IsSome (closed_by answer)
GoesBy outcomes.Starved answer was leaving = (closed_by answer ≡ None) × (leaving ≡ Some leaves.Memory)
GoesBy outcomes.Unsaid answer was leaving = ⊥

-- A line was said, and its answer noted; or there was no memory to say it.
pub data SaysLine {T : Type 0} (g : Ghosts T) (step : ScriptStep) (after : ℕ) (event : Event) (old new : LoggedLock T) (s s' : ScriptPlace) (outcome : LineOutcome) : Type 0 where
  unsaid : outcome ≡ outcomes.Unsaid → new ≡ old → s' ≡ s → SaysLine g step after event old new s s' outcome
  said : (came : Came) → MakesCoreStep g s.daemon step.line event came old.lock old.log new.lock new.log → DoesLine step after came.answer s s'
      → GoesBy outcome came.answer s.leaving s'.leaving → SaysLine g step after event old new s s' outcome

-- A daemon may take a turn: some daemon of the roll is about to.
pub record MayTakeTurn {T : Type 0} (g : Ghosts T) (b : RunStart) (script : List ScriptStep) (k : LoggedLock T) (s : ScriptPlace) : Type 0 where
  pub daemon : Daemon
  pub at : IsBeforeTurn g b script daemon k s

-- A daemon may say the next line of its script, which makes this event: it doesn't mean to leave, its numbers aren't spent, and the disk
-- hasn't failed. Its script goes on at `after`.
pub record MaySayNext (script : List ScriptStep) (r : Roll) (s : ScriptPlace) (step : ScriptStep) (after : ℕ) (event : Event) : Type 0 where
  pub ahead : steps_ahead script s.daemon s.place ≡ step ∷ steps_ahead script s.daemon after
  pub within : after ≤ length script
  pub stays : s.leaving ≡ None
  pub few : s.drawn + 1 < 2 ^ 40
  pub sound : r.failed ≡ None
  pub made : event_of s.names step ≡ event
