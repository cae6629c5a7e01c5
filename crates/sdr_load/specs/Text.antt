-- The text of a script.
use Rattle.std.specs.Prelude.{ℕ, List, [], ◌∷◌, ◌++◌}
use Rattle.std.specs.List.{flat_map}
use Rattle.sdr_model.specs.declared.script.ScriptStep.{ScriptStep}
use Rattle.sdr_words.specs.Canonical.{line_for}

-- the text of steps: the canonical line of each, and a byte 10 behind it
abbrev pub text_of : List ScriptStep → List ℕ
text_of steps = flat_map (λ step. line_for step ++ 10 ∷ []) steps
