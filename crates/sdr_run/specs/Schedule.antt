-- A dry run of a script: which events its steps make, and what is printed of them.
use Rattle.std.specs.Prelude.{◌≡◌, ℕ, List, [], ◌∷◌, ◌++◌, Option}
use Rattle.sdr_base.specs.Media.{Told}
use Rattle.sdr_core.specs.Caused.{AreCaused, MediaChange}
use Rattle.sdr_machine.specs.Core.{Core, RunsCore, first_core}
use Rattle.sdr_machine.specs.Ground.{bare}
use Rattle.sdr_machine.specs.Leaving.{AllLeave}
use Rattle.sdr_machine.specs.Machine.{Made}
use Rattle.sdr_model.specs.World.{empty_world}
use Rattle.sdr_model.specs.declared.event.Leave.TheVariants as leaves
use Rattle.sdr_words.specs.Bindings.{Binding, event_of, bound}
use Rattle.sdr_words.specs.Daemons.{daemons_of}
use Rattle.sdr_text.specs.Text.{line_text}
use Rattle.sdr_model.specs.declared.script.ScriptStep.{ScriptStep}

-- the step makes this event, under what the names hold
pub record MakesEvent (bindings : List Binding) (step : ScriptStep) (e : Made) : Type 0 where
  pub line : e.said.line ≡ step.line
  pub daemon : e.daemon ≡ step.daemon
  pub event : e.said.event ≡ event_of bindings step

-- The steps make these events in order. Each answer gives its step's name what it holds from then on.
abbrev pub FollowsScript : List Binding → List ScriptStep → List Made → Type 0
FollowsScript bindings [] [] = Unit {0}
FollowsScript bindings (step ∷ steps) (e ∷ made) = MakesEvent bindings step e × FollowsScript (bound bindings step e.said.answer) steps made
FollowsScript bindings [] (e ∷ made) = ⊥
FollowsScript bindings (step ∷ steps) [] = ⊥

-- what the names hold after the steps were answered so
abbrev pub bindings_after : List Binding → List ScriptStep → List Made → List Binding
bindings_after bindings (step ∷ steps) (e ∷ made) = bindings_after (bound bindings step e.said.answer) steps made
bindings_after bindings steps made = bindings

-- the printed lines of what was made
abbrev pub run_text : List Made → List ℕ
run_text [] = []
run_text (e ∷ made) = line_text e.said.line e.daemon e.said.answer e.said.bytes ++ run_text made

-- The script's steps but these last ones were made in order, on a core of the script's daemons, with these events and answers,
-- where media tell this.
pub record RunsDry (told : Option Told) (script rest : List ScriptStep) (made : List Made) (core : Core) : Type 0 where
  pub front : List ScriptStep
  pub steps : script ≡ front ++ rest
  pub follows : FollowsScript [] front made
  pub runs : RunsCore told (first_core (daemons_of script) (bare empty_world)) made core

-- Some run of the script's first steps, of which P tells by the steps that are left and the text of the answers.
pub record SomeRun (media : MediaChange) (script : List ScriptStep) (P : List ScriptStep → List ℕ → Type 0) : Type 0
  where
    pub rest : List ScriptStep
    pub made : List Made
    pub core : Core
    pub run : RunsDry media.before.told script rest made core
    pub caused : AreCaused made media
    pub printed : P rest (run_text made)

-- All steps of the script were made, and behind them all daemons made their leaves. P tells of the text of the answers.
pub record RunsWhole (media : MediaChange) (script : List ScriptStep) (P : List ℕ → Type 0) : Type 0 where
  pub made : List Made
  pub core : Core
  pub run : RunsDry media.before.told script [] made core
  pub leaving : List Made
  pub last : Core
  pub leaves : AllLeave media.before.told leaves.Done core leaving last
  pub caused : AreCaused made media
  pub printed : P (run_text made)
