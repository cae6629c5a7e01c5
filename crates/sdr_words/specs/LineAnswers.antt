-- What a function answers that reads a part of a line.
use Rattle.std.specs.Prelude.{◌≡◌, ℕ, List, ◌+◌, ◌++◌, ◌∷◌, [], option_map, Result, Ok, Err, Option, Some, None}
use Rattle.sdr_words.specs.Script.{Reading}
use Rattle.sdr_words.specs.declared.error.ScriptError.{ScriptError}
use Rattle.sdr_words.specs.declared.error.ScriptError.TheVariants as script_errors
use Rattle.sdr_model.specs.declared.script.ScriptStep.{ScriptStep}
use Rattle.sdr_words.specs.declared.error.LineError.{LineError}
use Rattle.sdr_words.specs.declared.error.LineError.TheVariants as errors

-- what the definition gives, Refused where it gives nothing, or that memory ran out
abbrev pub GivesOr : {X : Type 0} → Result X LineError → Option X → Type 0
GivesOr (Ok x) given = given ≡ Some x
GivesOr (Err errors.Refused) given = given ≡ None
GivesOr (Err errors.NoMemory) given = Unit {0}

-- what was read so far, with a step more
abbrev pub with_step : Reading → ScriptStep → Reading
with_step reading step = record { steps = reading.steps ++ step ∷ []; next = reading.next + 1 }

-- the step that the definition gives was added, or it gives none and the answer is Refused, or memory ran out
abbrev pub AddsStep : Result (Unit {0}) LineError → Reading → Reading → Option ScriptStep → Type 0
AddsStep (Ok done) old new given = option_map (with_step old) given ≡ Some new
AddsStep (Err errors.Refused) old new given = given ≡ None
AddsStep (Err errors.NoMemory) old new given = Unit {0}

-- the error says why the definition gives nothing, or that memory ran out
abbrev pub Stops : {X : Type 0} → ScriptError → Result X ℕ → Type 0
Stops script_errors.Input given = ⊥
Stops (script_errors.Line line) given = given ≡ Err line
Stops script_errors.NoMemory given = Unit {0}

-- what was read is what the definition reads, or it stops there
abbrev pub ReadsAs : {X : Type 0} → Result X ScriptError → Reading → Result Reading ℕ → Type 0
ReadsAs (Ok done) new given = given ≡ Ok new
ReadsAs (Err error) new given = Stops error given

-- the script is the one that the definition gives, or it stops there
abbrev pub GivesScript : Result (List ScriptStep) ScriptError → Result (List ScriptStep) ℕ → Type 0
GivesScript (Ok steps) given = given ≡ Ok steps
GivesScript (Err error) given = Stops error given
