-- The script that an input spells.
use Rattle.std.specs.Prelude.{ℕ, ◌+◌, List, [], ◌∷◌, ◌++◌, length, take, Bool, not, ◌&&◌, ◌||◌, ◌==◌, nat_le, if◌then◌else◌, slice_index, Option, Some, None, Result, Ok, Err, option_to_list}
use Rattle.std.specs.List.{list_all, slice_split}
use Rattle.sdr_words.specs.Fields.{fields_of}
use Rattle.sdr_words.specs.Statements.{step_of}
use Rattle.sdr_model.specs.declared.script.ScriptStep.{ScriptStep}

-- the first refused line ends the reading
infixl 10 ◌>>=◌
abbrev pub ◌>>=◌ : {A B : Type 0} → Result A ℕ → (A → Result B ℕ) → Result B ℕ
(Ok x) >>= f = f x
(Err line) >>= f = Err line

-- the most bytes that an input may have
abbrev pub longest_input : ℕ
longest_input = 1048576

-- the lines of an input: its parts between the bytes 10. An empty one behind a last byte 10 says nothing
abbrev pub input_lines : List ℕ → List (List ℕ)
input_lines = slice_split (λ b. b == 10)

-- whether a byte may stand in a line
abbrev pub is_line_byte : ℕ → Bool
is_line_byte b = nat_le 32 b && nat_le b 126

-- whether a line is skipped: it is empty or of spaces, or its first byte is #
abbrev pub is_skipped : List ℕ → Bool
is_skipped line = list_all (λ b. b == 32) line || slice_index line 0 == 35

-- a step, else its line is refused
abbrev pub step_or_line : ℕ → Option ScriptStep → Result (Option ScriptStep) ℕ
step_or_line line (Some step) = Ok (Some step)
step_or_line line None = Err line

-- the step of a line behind those of the earlier lines, none where it is skipped, or its number where it is refused
abbrev pub line_says : List ScriptStep → ℕ → List ℕ → Result (Option ScriptStep) ℕ
line_says earlier number line =
    if not (list_all is_line_byte line) then Err number
    else if is_skipped line then Ok None
    else step_or_line number (step_of earlier number (fields_of line))

-- what the lines so far gave: their steps, and the number of the line that comes next
pub record Reading : Type 0 where
  pub steps : List ScriptStep
  pub next : ℕ

-- before the first line
abbrev pub nothing_read : Reading
nothing_read = record { steps = []; next = 1 }

-- after one more line, or the number of the line where it is refused
abbrev pub read_line : Reading → List ℕ → Result Reading ℕ
read_line reading line = do
  says ← line_says reading.steps reading.next line
  Ok (record { steps = reading.steps ++ option_to_list says; next = reading.next + 1 })

-- after these lines, or the number of the first that is refused
abbrev pub read_lines : Reading → List (List ℕ) → Result Reading ℕ
read_lines reading [] = Ok reading
read_lines reading (line ∷ lines) = do
  reading ← read_line reading line
  read_lines reading lines

-- the steps of an input in the order of its lines, or its first refused line, counted from 1
abbrev pub script_of : List ℕ → Result (List ScriptStep) ℕ
script_of input = do
  all ← read_lines nothing_read (input_lines input)
  Ok all.steps

-- a list without its last item
abbrev pub but_last : {A : Type 0} → List A → List A
but_last [] = []
but_last (x ∷ []) = []
but_last (x ∷ y ∷ xs) = x ∷ but_last (y ∷ xs)

-- the lines that end in the front of an input: all but the one in which the next byte stands
abbrev pub ended_lines : List ℕ → List (List ℕ)
ended_lines front = but_last (input_lines front)

-- the first refused line of an input that goes on behind this front, where the next byte is refused with its line
abbrev pub refused_behind : List ℕ → Result (List ScriptStep) ℕ
refused_behind front = do
  ended ← read_lines nothing_read (ended_lines front)
  Err ended.next

-- the script of an input of any length: a byte too many refuses the line in which it stands
abbrev pub input_script : List ℕ → Result (List ScriptStep) ℕ
input_script input =
    if nat_le (length input) longest_input
    then script_of input
    else refused_behind (take longest_input input)
