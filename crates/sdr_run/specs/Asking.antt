-- How often a dry run asks media.
use Rattle.std.specs.Prelude.{◌≡◌, ◌≤◌, ℕ, ◌+◌, List, [], Option, false}
use Rattle.sdr_base.specs.Media.{Told}
use Rattle.sdr_machine.specs.Core.{Core}
use Rattle.sdr_machine.specs.Machine.{Made}
use Rattle.sdr_model.specs.declared.script.ScriptStep.{ScriptStep}
use Rattle.sdr_run.specs.Needing.{outside_of_run}
use Rattle.sdr_run.specs.Playing.{IsPrinted, Output}
use Rattle.sdr_run.specs.Schedule.{RunsDry, run_text}
use Rattle.sdr_run.specs.declared.playing.Played.{Played}

-- what was printed of a run that came to this, by the steps that are left and the text of the answers: no step is left unless memory was
-- wanting, and all of the text was printed, or a part from the front where the output failed
abbrev pub IsPrintedBy : Played → Output → Output → List ScriptStep → List ℕ → Type 0
IsPrintedBy played old new rest text = (played.starved ≡ false → rest ≡ []) × IsPrinted played.printing old new text

-- The script's steps but these last ones were made in order, where media tell this, and the text of the answers was printed. In it media
-- were asked, from so often to so often, at most once for each extent that lies with them and of which an event of the run needs bytes.
pub record AsksAlong (told : Option Told) (script : List ScriptStep) (asked asked' : ℕ) (old new : Output) (played : Played) : Type 0 where
  pub rest : List ScriptStep
  pub made : List Made
  pub core : Core
  pub run : RunsDry told script rest made core
  pub printed : IsPrintedBy played old new rest (run_text made)
  pub asks : asked' ≤ asked + outside_of_run run
