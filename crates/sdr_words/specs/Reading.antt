-- What reading a script from a source gives.
use Rattle.std.specs.Prelude.{◌≡◌, ℕ, ◌≤◌, ◌<◌, ◌⊎◌, List, length, Option, Ok, Err, IfSome}
use Rattle.std.specs.Io.KnownBytes.{Consumes, IsAtEnd}
use Rattle.sdr_words.specs.Script.{script_of, input_script, longest_input}
use Rattle.sdr_words.specs.declared.error.ScriptError.{ScriptError}
use Rattle.sdr_words.specs.declared.error.ScriptError.TheVariants as errors
use Rattle.sdr_model.specs.declared.script.ScriptStep.{ScriptStep}

-- all that the source had was read, and is the script of these steps; so is what it tells
pub record ReadsScript (old new : Option (List ℕ)) (steps : List ScriptStep) : Type 0 where
  pub bytes : List ℕ
  pub taken : Consumes old new bytes
  pub at_end : IsAtEnd new
  pub within : length bytes ≤ longest_input
  pub script : script_of bytes ≡ Ok steps
  pub whole : IfSome old (λ input. input_script input ≡ Ok steps)

-- what was read is refused in this line, and so is all that the source had, where it tells that
pub record RefusesLine (old new : Option (List ℕ)) (line : ℕ) : Type 0 where
  pub bytes : List ℕ
  pub taken : Consumes old new bytes
  pub refused : input_script bytes ≡ Err line
  pub whole : IfSome old (λ input. input_script input ≡ Err line)

-- where the error names a line, it is the first that is refused
abbrev pub NamesLine : Option (List ℕ) → Option (List ℕ) → ScriptError → Type 0
NamesLine old new errors.Input = Unit {0}
NamesLine old new (errors.Line line) = RefusesLine old new line
NamesLine old new errors.NoMemory = Unit {0}

-- bytes that were read up to the end, or more of them than an input may have
pub record ReadsInput (old new : Option (List ℕ)) (bytes : List ℕ) : Type 0 where
  pub taken : Consumes old new bytes
  pub far : IsAtEnd new ⊎ longest_input < length bytes

-- the error names no line
abbrev pub NamesNoLine : ScriptError → Type 0
NamesNoLine errors.Input = Unit {0}
NamesNoLine (errors.Line line) = ⊥
NamesNoLine errors.NoMemory = Unit {0}
