-- A schedule that is played with a journal of it.
use Rattle.std.specs.Prelude.{◌≡◌, List, not}
use Rattle.sdr_core.specs.Caused.{MediaChange, from_to, media_on}
use Rattle.sdr_core.specs.CoreKept.{IsRunOf, RunStart}
use Rattle.sdr_core.specs.Ended.{StandsEnded}
use Rattle.sdr_machine.specs.Crash.{is_sound}
use Rattle.sdr_machine.specs.Ground.{State}
use Rattle.sdr_machine.specs.declared.has_ground.HasGround.{Ghosts}
use Rattle.sdr_model.specs.declared.script.ScriptStep.{ScriptStep}
use Rattle.sdr_run.specs.Playing.{IsPrinted, Output, ReplaysSteps}
use Rattle.sdr_run.specs.declared.recording.Ran.{Ran}

-- The steps were made, the leaves tell whether memory was wanting, the journal is the one of this run, and the answers were printed.
abbrev pub RunsScript : {T : Type 0} → MediaChange → State → List ScriptStep → Output → Output → Ran T → Type 0
RunsScript media first script out out' ran = ReplaysSteps media first script ran.journal ran.starved (IsPrinted ran.printing out out')

-- A schedule was played on a ground, which was this one before.
pub record PlaysOut {T : Type 0} (g : Ghosts T) (b : RunStart) (script : List ScriptStep) (before : T) (out out' : Output) (ran : Ran T) : Type 0 where
  -- the answers that were printed and the journal are those of the run of the script
  pub replays : RunsScript (from_to (media_on g before) (media_on g ran.base)) b.first script out out' ran
  -- what a crash leaves is told by the journal
  pub run : IsRunOf g b ran.journal ran.base
  -- unless the disk failed in an entry, no transaction is open on the ground
  pub ended : StandsEnded g b ran.journal ran.base
  -- the disk failed just where it did in an entry
  pub failed : ran.failed ≡ not (is_sound ran.journal)
