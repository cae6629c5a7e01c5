-- The transaction of a turn: what its begin and its lines come to.
use Rattle.std.specs.Prelude.{◌≡◌, ◌≤◌, ◌+◌, ◌++◌, ℕ, List, true, None, length}
use Rattle.sdr_core.specs.CoreKept.{KeepsRun, LoggedLock, RunStart}
use Rattle.sdr_daemon.specs.declared.turn.LineOutcome.TheVariants as outcomes
use Rattle.sdr_daemon.specs.declared.turn.LineOutcome.{LineOutcome}
use Rattle.sdr_machine.specs.declared.daemon.Daemon.{Daemon}
use Rattle.sdr_machine.specs.declared.has_ground.HasGround.{Ghosts}
use Rattle.sdr_model.specs.declared.journal.Said.{Said}
use Rattle.sdr_model.specs.declared.script.ScriptStep.{ScriptStep}
use Rattle.sdr_daemon.specs.Coming.{coming_of}
use Rattle.sdr_daemon.specs.Progressing.{WasLookRefused, steps_ahead}
use Rattle.sdr_daemon.specs.Scripts.{HasKeptSoFar, MayHaveDrawn}
use Rattle.sdr_daemon.specs.TakingTurns.{IsBeforeTurn, TakesTurn}
use Rattle.sdr_daemon.specs.TurnEvents.{BeforeTurn, HasSaid, before_of}
use Rattle.sdr_daemon.specs.Turns.{Phase, Reached, SayLines, entries_by, names_after, opens_work, steps_by}
use Rattle.sdr_daemon.specs.declared.coming.Coming.TheVariants as comings
use Rattle.sdr_daemon.specs.declared.script_place.ScriptPlace.{ScriptPlace}

-- A daemon is in the transaction of a turn, in which it has said these lines.
pub record IsInWork {T : Type 0} (g : Ghosts T) (b : RunStart) (script : List ScriptStep) (o : BeforeTurn) (k : LoggedLock T) (first s : ScriptPlace) : Type 0 where
  pub run : KeepsRun g b k
  pub line : ℕ
  pub comes : coming_of o.roll script first ≡ comings.Comes first.daemon line  -- it has come with this line
  pub lines : List ScriptStep
  pub said : List Said
  pub within : HasSaid o said k.lock.roll k.log
  pub at : Reached
  pub kept : HasKeptSoFar (WasLookRefused b o.roll.drawn o.journal) (steps_by first.daemon script) (lines ++ steps_ahead script first.daemon s.place) (entries_by first.daemon o.journal) at
  pub ready : at.phase ≡ Phase.ready
  pub below : at.number ≤ o.roll.drawn
  pub say : SayLines at.names lines said
  pub names : s.leaving ≡ None → s.names ≡ names_after at.names lines said
  pub opens : opens_work said ≡ true
  pub daemon : s.daemon ≡ first.daemon
  pub drawn : s.drawn ≡ first.drawn + 1
  pub may : MayHaveDrawn s.drawn (entries_by first.daemon o.journal) (steps_by first.daemon script) (steps_ahead script first.daemon s.place)
  pub place : s.place ≤ length script

-- whatever the daemon was before, it is in work now
abbrev pub ComesToWork : {T : Type 0} → Ghosts T → RunStart → List ScriptStep → LoggedLock T → LoggedLock T → ScriptPlace → ScriptPlace → Type 0
ComesToWork g b script old new s s' = (x : Daemon) → IsBeforeTurn g b script x old s → IsInWork g b script (before_of old x) new s s'

-- What a begin comes to: a transaction in which the daemon goes on, or from which it leaves; or none, for want of memory. The core was `old`
-- and the daemon at `s` before it; they are `new` and `s'` behind it.
abbrev pub BeginComesTo : {T : Type 0} → LineOutcome → Ghosts T → RunStart → List ScriptStep → LoggedLock T → LoggedLock T → ScriptPlace → ScriptPlace → Type 0
BeginComesTo outcomes.On g b script old new s s' = ComesToWork g b script old new s s' × (s'.leaving ≡ None)
BeginComesTo outcomes.Starved g b script old new s s' = ComesToWork g b script old new s s'
BeginComesTo outcomes.Closed g b script old new s s' = (x : Daemon) → IsBeforeTurn g b script x old s → ⊥
BeginComesTo outcomes.Unsaid g b script old new s s' = (new ≡ old) × (s' ≡ s)

-- What a line of a transaction comes to: the daemon goes on, or its turn is over, or it leaves for want of memory. The core was `old` and the
-- daemon at `s` before the turn; they were `k` and `sa` before the line, and are `new` and `sb` behind it.
abbrev pub LineComesTo : {T : Type 0} → LineOutcome → Ghosts T → RunStart → List ScriptStep → ℕ → LoggedLock T → LoggedLock T → LoggedLock T → ScriptPlace → ScriptPlace → ScriptPlace → Type 0
LineComesTo outcomes.On g b script after old k new s sa sb = ComesToWork g b script old new s sb × (sb.leaving ≡ None) × (sb.place ≡ after)
LineComesTo outcomes.Closed g b script after old k new s sa sb = TakesTurn g b script old new s sb
LineComesTo outcomes.Starved g b script after old k new s sa sb = ComesToWork g b script old new s sb
LineComesTo outcomes.Unsaid g b script after old k new s sa sb = (new ≡ k) × (sb ≡ sa)
