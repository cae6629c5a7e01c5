-- What a dry run of a script comes to.
use Rattle.std.specs.Prelude.{◌≤◌, ◌+◌, List}
use Rattle.sdr_base.specs.declared.media.Media.{Ghosts as MediaGhosts}
use Rattle.sdr_core.specs.Caused.{AreCaused, media_change}
use Rattle.sdr_machine.specs.Core.{Core}
use Rattle.sdr_machine.specs.Leaving.{AllLeave}
use Rattle.sdr_machine.specs.Machine.{Made}
use Rattle.sdr_model.specs.declared.script.ScriptStep.{ScriptStep}
use Rattle.sdr_run.specs.Asking.{IsPrintedBy}
use Rattle.sdr_run.specs.Needing.{outside_of_run}
use Rattle.sdr_run.specs.Playing.{Output, leave_of}
use Rattle.sdr_run.specs.Schedule.{RunsDry, run_text}
use Rattle.sdr_run.specs.declared.drying.DryRun.{DryRun}

-- The script's steps but these last ones were made in order on a world in memory; then all made their leaves. The answers were printed. What
-- blames media is caused, and they were asked at most once for each extent that lies with them and of which an event needs bytes.
pub record IsDry {M : Type 0} (m : MediaGhosts M) (script : List ScriptStep) (files : M) (out out' : Output) (ran : DryRun M) : Type 0 where
  pub rest : List ScriptStep
  pub made : List Made
  pub core : Core
  pub run : RunsDry (m.told files) script rest made core
  pub leaving : List Made
  pub last : Core
  pub leaves : AllLeave (m.told files) (leave_of ran.played.starved) core leaving last
  pub caused : AreCaused made (media_change m.told m.faults m.short files ran.media)
  pub asks : m.asks ran.media ≤ m.asks files + outside_of_run run
  pub printed : IsPrintedBy ran.played out out' rest (run_text made)
