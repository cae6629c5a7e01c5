-- The next of some steps.
use Rattle.std.proofs.Common.{◌≡◌, ◌∷◌, List, [], Option, None, Some, IfSome, drop, refl, true≢false}
use Rattle.std.specs.List.{slice_get}
use Rattle.std.specs.Option.{IsNone, option_map}
use Rattle.sdr_model.specs.declared.script.ScriptStep.{ScriptStep}
use Rattle.sdr_run.specs.Steps.{StartsWith}

-- where there is no first step, none is left
pub none_left : {A : Type 0} (of : A → ScriptStep) (steps : List ScriptStep) (first : Option A) → option_map of first ≡ slice_get steps 0 → IsNone first → steps ≡ []
none_left of [] first is none = refl
none_left of (step ∷ rest) None is none = cc
none_left of (step ∷ rest) (Some a) is none = absurd (true≢false none)

-- and else they begin with it
pub starts_with : (steps : List ScriptStep) (first : Option ScriptStep) → first ≡ slice_get steps 0 → IfSome first (StartsWith steps)
starts_with steps None is = tt
starts_with [] (Some step) is = cc
starts_with (first ∷ rest) (Some step) is = record { rest = rest; is = cc }

-- steps that begin with one begin so, whatever their rest
pub starts_then : (steps : List ScriptStep) (first : Option ScriptStep) → IfSome first (λ step. steps ≡ step ∷ drop 1 steps) → IfSome first (StartsWith steps)
starts_then steps None is = tt
starts_then steps (Some step) is = record { rest = drop 1 steps; is = is }
