-- A schedule that runs, step by step.
use Rattle.std.specs.Prelude.{◌≡◌, ◌≤◌, ◌+◌, ℕ, List, [], ◌++◌}
use Rattle.sdr_core.specs.Caused.{AreCaused, from_to}
use Rattle.sdr_core.specs.Going.{MakesNext, media_of}
use Rattle.sdr_core.specs.declared.has_run.HasRun.{Ghosts}
use Rattle.sdr_run.specs.Needing.{outside_along}
use Rattle.sdr_run.specs.Schedule.{FollowsScript, bindings_after, run_text}
use Rattle.sdr_machine.specs.Core.{Core, RunsCore}
use Rattle.sdr_machine.specs.Machine.{Made}
use Rattle.sdr_machine.specs.declared.came.Came.{Came}
use Rattle.sdr_model.specs.declared.script.ScriptStep.{ScriptStep}
use Rattle.sdr_text.specs.Text.{line_text}
use Rattle.sdr_words.specs.Bindings.{Binding, bound, event_of}

-- The script's steps but these last ones were made in order, on a run that was this one before and had come to this core. Media were asked
-- at most once for each extent that lies with them and of which an event needs bytes. P tells of the text of the answers.
pub record HasMade {R : Type 0} (r : Ghosts R) (before : R) (first : Core) (script rest : List ScriptStep) (now : R) (P : List ℕ → Type 0) : Type 0 where
  pub made : List Made
  pub core : Core
  pub here : r.at now core
  pub front : List ScriptStep
  pub steps : script ≡ front ++ rest
  pub follows : FollowsScript [] front made
  pub runs : RunsCore (r.told before) first made core
  pub caused : AreCaused made (from_to (media_of r before) (media_of r now))
  pub asks : r.asks now ≤ r.asks before + outside_along (r.told before) first made core runs
  pub printed : P (run_text made)

-- The same, and the names hold what the answers gave.
pub record Running {R : Type 0} (r : Ghosts R) (before : R) (first : Core) (script rest : List ScriptStep) (bindings : List Binding) (now : R)
    (P : List ℕ → Type 0) : Type 0 where
  pub at : HasMade r before first script rest now P
  pub names : bindings ≡ bindings_after [] at.front at.made

-- Whatever core the run had come to, some of the steps were made from it, of which P tells by those that are left and the text of the answers.
pub record HasRun {R : Type 0} (r : Ghosts R) (before : R) (script : List ScriptStep) (now : R) (P : List ScriptStep → List ℕ → Type 0) : Type 0 where
  pub rest : List ScriptStep
  pub each : (first : Core) → r.at before first → HasMade r before first script rest now (P rest)

-- P tells of the bytes that the last event gave, which was answered so.
pub record TellsGiven {R : Type 0} (r : Ghosts R) (now : R) (a : Came) (P : List ℕ → Type 0) : Type 0 where
  pub bytes : List ℕ
  pub gives : r.gives now a bytes
  pub tells : P bytes

-- The event of a step was made, and Prints tells of the line of its answer.
pub record AnswersStep {R : Type 0} (r : Ghosts R) (bindings : List Binding) (step : ScriptStep) (old new : R) (Prints : List ℕ → Type 0) : Type 0 where
  pub came : Came
  pub makes : MakesNext r step.daemon step.line (event_of bindings step) came old new
  pub prints : TellsGiven r new came (λ bytes. Prints (line_text step.line step.daemon came.answer bytes))

-- The same, and its name holds what the answer gave.
pub record MakesStep {R : Type 0} (r : Ghosts R) (bindings : List Binding) (step : ScriptStep) (old new : R) (bindings' : List Binding)
    (Prints : List ℕ → Type 0) : Type 0 where
  pub answers : AnswersStep r bindings step old new Prints
  pub names : bindings' ≡ bound bindings step answers.came.answer
