-- What the still call answers: by status, what was read and what was written.
use Rattle.std.specs.Prelude.{◌≡◌, ℕ, List, ◌++◌, ◌⊎◌, Option, Some, None, Ok, Err, codes, decimal, ⊤}
use Rattle.std.specs.Io.KnownBytes.{Appends, IsAtEnd}
use Rattle.sdr_base.specs.Causes.{Rose}
use Rattle.sdr_base.specs.Written.{AppendsPart}
use Rattle.sdr_core.specs.Caused.{MediaChange}
use Rattle.sdr_run.specs.Schedule.{RunsWhole, SomeRun}
use Rattle.sdr_words.specs.Script.{input_script}
use Rattle.sdr_words.specs.declared.error.ScriptError.{ScriptError}
use Rattle.sdr_words.specs.declared.error.ScriptError.TheVariants as errors
use Rattle.sdr_model.specs.declared.script.ScriptStep.{ScriptStep}
use Rattle.sdr_forms.specs.declared.status.TheConstants.{DONE, INPUT_FAULT, OUTPUT_FAULT, REFUSED_LINE, NO_MEMORY}

-- the text was written whole, or a part of it from the front where the sink's count of faults rose
abbrev pub WritesOut : Option (List ℕ) → Option (List ℕ) → ℕ → ℕ → List ℕ → Type 0
WritesOut old new before now text = Appends old new text ⊎ (Rose before now × AppendsPart old new text)

-- where a source told what it had left, that was this input
abbrev pub Had : Option (List ℕ) → List ℕ → Type 0
Had None input = ⊤
Had (Some left) input = left ≡ input

-- the source's input spells the script
pub record HadScript (left : Option (List ℕ)) (script : List ScriptStep) : Type 0 where
  pub input : List ℕ
  pub had : Had left input
  pub spells : input_script input ≡ Ok script

-- the first refused line of the source's input is this one
pub record HadBadLine (left : Option (List ℕ)) (line : ℕ) : Type 0 where
  pub input : List ℕ
  pub had : Had left input
  pub refused : input_script input ≡ Err line

-- where an error names a line, that line of the source's input is the first that is refused
abbrev pub NamesBadLine : Option (List ℕ) → ScriptError → Type 0
NamesBadLine left errors.Input = ⊤
NamesBadLine left (errors.Line line) = HadBadLine left line
NamesBadLine left errors.NoMemory = ⊤

-- The source's input spelled a script, of which some run of the first steps went so.
pub record HadRun (left : Option (List ℕ)) (media : MediaChange) (P : List ScriptStep → List ℕ → Type 0) : Type 0 where
  pub script : List ScriptStep
  pub input : HadScript left script
  pub run : SomeRun media script P

-- All of the source's input was read and spelled a script, all steps were made, behind which all daemons made their leaves, and the lines of
-- all answers were written.
pub record IsDone (left left' : Option (List ℕ)) (media : MediaChange) (old new : Option (List ℕ)) : Type 0 where
  pub read : IsAtEnd left'
  pub script : List ScriptStep
  pub input : HadScript left script
  pub run : RunsWhole media script (Appends old new)

-- the last line of a refused script
abbrev pub line_refused : ℕ → List ℕ
line_refused line = codes "line " ++ decimal line ++ codes "\n"

-- A line of the script was refused, and its number was written.
pub record IsRefused (left old new : Option (List ℕ)) (before now : ℕ) : Type 0 where
  pub line : ℕ
  pub input : HadBadLine left line
  pub written : WritesOut old new before now (line_refused line)

-- Memory was wanted: before the run, and this held, or behind some steps, whose answers stand before the last line.
abbrev pub IsStarved : Option (List ℕ) → MediaChange → Type 0 → Option (List ℕ) → Option (List ℕ) → ℕ → ℕ → Type 0
IsStarved left media Unrun old new before now =
    (Unrun × WritesOut old new before now (codes "no memory\n"))
    ⊎ HadRun left media (λ rest text. WritesOut old new before now (text ++ codes "no memory\n"))

-- the statuses with which a dry run ends
abbrev pub IsDryStatus : ℕ → Type 0
IsDryStatus status = (status ≡ DONE) ⊎ (status ≡ INPUT_FAULT) ⊎ (status ≡ OUTPUT_FAULT) ⊎ (status ≡ REFUSED_LINE) ⊎ (status ≡ NO_MEMORY)

-- the status and the last line that tell why no script was read
abbrev pub Tells : ScriptError → ℕ → Option (List ℕ) → Option (List ℕ) → ℕ → ℕ → Type 0
Tells errors.Input status old new before now = (status ≡ INPUT_FAULT) × WritesOut old new before now (codes "input fault\n")
Tells (errors.Line line) status old new before now = (status ≡ REFUSED_LINE) × WritesOut old new before now (line_refused line)
Tells errors.NoMemory status old new before now = (status ≡ NO_MEMORY) × WritesOut old new before now (codes "no memory\n")
