-- How far the daemons of a core are in their scripts.
use Rattle.std.specs.Prelude.{◌≡◌, ◌≤◌, ◌<◌, ◌^◌, ℕ, List, [], All, Bool, true, Option, None, Some, MatchBool, drop, length, map, nat_eq, sum_by, ⊤}
use Rattle.std.specs.List.{IsDistinct, list_all}
use Rattle.sdr_core.specs.CoreKept.{LoggedLock, RunStart}
use Rattle.sdr_core.specs.Leaving.{LastsOn}
use Rattle.sdr_machine.specs.Core.{has_left}
use Rattle.sdr_machine.specs.Holders.{hold_none}
use Rattle.sdr_machine.specs.Roll.{Roll, daemon_of, first_roll}
use Rattle.sdr_machine.specs.declared.daemon.Daemon.{Daemon}
use Rattle.sdr_machine.specs.declared.has_ground.HasGround.{Ghosts}
use Rattle.sdr_model.specs.declared.event.Leave.{Leave}
use Rattle.sdr_model.specs.declared.journal.Entry.{Entry}
use Rattle.sdr_model.specs.declared.script.ScriptStep.{ScriptStep}
use Rattle.sdr_words.specs.Daemons.{daemons_of}
use Rattle.sdr_daemon.specs.Scripts.{HasKeptSoFar, IsLookRefused, DaemonKeepsToScript, MayHaveDrawn, MeansToLeave}
use Rattle.sdr_daemon.specs.Turns.{Phase, Reached, entries_by, steps_by}
use Rattle.sdr_daemon.specs.declared.script_place.ScriptPlace.{ScriptPlace}

-- a look was refused under a number that was drawn
pub record WasLookRefused (b : RunStart) (drawn : ℕ) (journal : List Entry) (number ticket : ℕ) : Type 0 where
  pub drawn_by : number ≤ drawn
  pub refused_at : IsLookRefused b.told b.daemons b.first journal number ticket

-- the lines of a daemon from a place of the whole script on
abbrev pub steps_ahead : List ScriptStep → ℕ → ℕ → List ScriptStep
steps_ahead script daemon place = steps_by daemon (drop place script)

-- The daemon as the roll has it waits for the ticket that it may look at next, and means to make the leave by which its transaction was
-- closed.
abbrev pub PhaseAgrees : Phase → Daemon → Option Leave → Type 0
PhaseAgrees Phase.ready d leaving = ⊤
PhaseAgrees (Phase.waiting ticket) d leaving = d.waits ≡ Some ticket
PhaseAgrees (Phase.leaving leave) d leaving = leaving ≡ Some leave

-- A daemon is on its way: the lines before its place gave its entries.
pub record IsOnWay (b : RunStart) (script : List ScriptStep) (r : Roll) (journal : List Entry) (d : Daemon) (s : ScriptPlace) : Type 0 where
  pub at : Reached
  pub kept : HasKeptSoFar (WasLookRefused b r.drawn journal) (steps_by s.daemon script) (steps_ahead script s.daemon s.place) (entries_by s.daemon journal) at
  pub below : at.number ≤ r.drawn
  pub few : s.drawn < 2 ^ 40
  pub names : s.leaving ≡ None → s.names ≡ at.names
  pub agrees : PhaseAgrees at.phase d s.leaving
  pub means : MeansToLeave (steps_ahead script s.daemon s.place) s.leaving
  pub may : MayHaveDrawn s.drawn (entries_by s.daemon journal) (steps_by s.daemon script) (steps_ahead script s.daemon s.place)

-- The progress of a daemon holds of a roll and a journal: the daemon has left, and its entries keep to its script; or it is on its way.
pub record ProgressHolds (b : RunStart) (script : List ScriptStep) (r : Roll) (journal : List Entry) (s : ScriptPlace) : Type 0 where
  pub daemon : Daemon
  pub found : daemon_of r s.daemon ≡ Some daemon
  pub drawn : s.drawn ≤ r.drawn
  pub few : s.drawn ≤ 2 ^ 40
  pub within : s.place ≤ length script
  pub state :
      MatchBool daemon.left
      (DaemonKeepsToScript (WasLookRefused b r.drawn journal) journal (steps_by s.daemon script) (entries_by s.daemon journal))
      (IsOnWay b script r journal daemon s)

-- What holds of a core and the progress of its daemons between two turns: no number is held, no transaction is open, and each daemon's
-- progress holds.
pub record IsScriptedRun {T : Type 0} (g : Ghosts T) (b : RunStart) (script : List ScriptStep) (k : LoggedLock T) (these : List ScriptPlace) : Type 0 where
  pub free : hold_none k.lock.roll.daemons ≡ true
  pub unsaid : k.log.works ≡ []
  pub holds : All (ProgressHolds b script k.lock.roll k.log.journal) these
  pub ids : map (λ (s : ScriptPlace). s.daemon) these ≡ b.daemons
  pub named : b.daemons ≡ daemons_of script
  pub apart : IsDistinct nat_eq b.daemons
  pub drawn : k.lock.roll.drawn ≤ sum_by (λ (s : ScriptPlace). s.drawn) these
  pub lasts : LastsOn g k.lock.base

-- a core, and the progress of its daemons
pub record ScriptedCore (T : Type 0) : Type 0 where
  pub core : LoggedLock T
  pub progress : List ScriptPlace

-- the progress of a daemon before its first line
abbrev pub first_progress : ℕ → ScriptPlace
first_progress daemon = record { daemon = daemon; place = 0; drawn = 0; leaving = None; names = [] }

-- A core before any event: its daemons are newcomers, nothing was said, and its ground lasts for as many calls as are made.
pub record IsFresh {T : Type 0} (g : Ghosts T) (b : RunStart) (k : LoggedLock T) : Type 0 where
  pub roll : k.lock.roll ≡ first_roll b.daemons
  pub works : k.log.works ≡ []
  pub journal : k.log.journal ≡ []
  pub lasts : LastsOn g k.lock.base

-- whether all daemons of these have left
abbrev pub have_left : Roll → List ScriptPlace → Bool
have_left r these = list_all (λ (s : ScriptPlace). has_left r s.daemon) these
