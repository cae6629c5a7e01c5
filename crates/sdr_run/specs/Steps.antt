-- The next of some steps.
use Rattle.std.specs.Prelude.{◌≡◌, List, ◌∷◌}
use Rattle.sdr_model.specs.declared.script.ScriptStep.{ScriptStep}

-- the steps begin with this one
pub record StartsWith (steps : List ScriptStep) (step : ScriptStep) : Type 0 where
  pub rest : List ScriptStep
  pub is : steps ≡ step ∷ rest
