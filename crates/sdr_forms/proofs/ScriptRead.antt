-- What a read script says of the source's input.
use Rattle.std.proofs.Common.{◌≡◌, ◌==◌, ◌+◌, ◌++◌, ◌≤◌, ℕ, List, [], ◌∷◌, Option, None, Some, Result, Ok, Err, inl, inr, length, option_to_list, refl, ap, ◌∙◌, append-nil, length-append, subst, arith}
use Rattle.std.proofs.lemmas.Bool.{cond-true}
use Rattle.std.proofs.lemmas.Bool.Decides.{leb_tells}
use Rattle.std.proofs.lemmas.List.Splits.{length-slice_split}
use Rattle.std.proofs.lemmas.List.Sums.{count_by-le-length}
use Rattle.std.specs.Io.KnownBytes.{Consumes, IsAtEnd}
use Rattle.sdr_words.specs.Reading.{ReadsScript, RefusesLine, NamesLine}
use Rattle.sdr_words.specs.Script.{Reading, ◌>>=◌, nothing_read, input_lines, longest_input, line_says, read_line, read_lines, script_of}
use Rattle.sdr_forms.specs.Still.{Had, HadScript, HadBadLine, NamesBadLine}
use Rattle.sdr_words.specs.declared.error.ScriptError.{ScriptError}
use Rattle.sdr_words.specs.declared.error.ScriptError.TheVariants as errors
use Rattle.sdr_model.specs.declared.script.ScriptStep.{ScriptStep}

-- what two results that are Ok hold is the same
one_result : {A B : Type 0} {x y : A} → (r : Result A B) → r ≡ Ok x → r ≡ Ok y → x ≡ y
one_result r is is' = cc

-- an input that was read to its end was this one
had_all : (old new : Option (List ℕ)) (bytes : List ℕ) → Consumes old new bytes → IsAtEnd new → Had old bytes
had_all None new bytes taken end = tt
had_all (Some xs) None bytes taken end = absurd taken
had_all (Some xs) (Some ys) bytes taken end = taken ∙ ap (λ l. bytes ++ l) end ∙ append-nil bytes

-- what was read as a script is one
pub had_script : (old new : Option (List ℕ)) (steps : List ScriptStep) → ReadsScript old new steps → HadScript old steps
had_script old new steps reads = record {
  input = reads.bytes;
  had = had_all old new reads.bytes reads.taken reads.at_end;
  spells =
      elim (leb_tells (length reads.bytes) longest_input) [
        | inl within ↦ cond-true _ _ _ within.0 ∙ reads.script
        | inr beyond ↦ absurd (omega (arith, beyond.1, reads.within))
      ];
}

had_bad_line : (old new : Option (List ℕ)) (line : ℕ) → RefusesLine old new line → HadBadLine old line
had_bad_line None new line reads = record { input = reads.bytes; had = tt; refused = reads.refused }
had_bad_line (Some input) new line reads = record { input = input; had = refl; refused = reads.whole }

-- a named line was refused
pub bad_line_of : (old new : Option (List ℕ)) (error : ScriptError) → NamesLine old new error → NamesBadLine old error
bad_line_of old new errors.Input names = tt
bad_line_of old new (errors.Line line) names = had_bad_line old new line names
bad_line_of old new errors.NoMemory names = tt

-- a line gives one step at most
steps_of_line : (reading : Reading) (says : Result (Option ScriptStep) ℕ) (now : Reading)
    → (says >>= λ says. Ok (record { steps = reading.steps ++ option_to_list says; next = reading.next + 1 })) ≡ Ok now
    → length now.steps ≤ length reading.steps + 1
steps_of_line reading (Ok None) now e =
    subst (λ r. length r.steps ≤ length reading.steps + 1) (one_result _ refl e) (omega (arith, length-append reading.steps []))
steps_of_line reading (Ok (Some step)) now e =
    subst (λ r. length r.steps ≤ length reading.steps + 1) (one_result _ refl e) (omega (arith, length-append reading.steps (step ∷ [])))
steps_of_line reading (Err number) now e = cc

-- lines give as many steps as they are at most
steps_of_lines : (reading : Reading) (lines : List (List ℕ)) (now : Reading) → read_lines reading lines ≡ Ok now
    → length now.steps ≤ length reading.steps + length lines
steps_of_lines reading [] now = λ e. subst (λ r. length r.steps ≤ length reading.steps + 0) (one_result _ refl e) (omega arith)
steps_of_lines reading (line ∷ lines) now =
    elim (read_line reading line) as (λ r. read_line reading line ≡ r → (r >>= λ reading. read_lines reading lines) ≡ Ok now → length now.steps ≤ length reading.steps + length (line ∷ lines)) [
      | Ok mid ↦ λ here e. omega (arith, steps_of_line reading (line_says reading.steps reading.next line) mid here, steps_of_lines mid lines now e)
      | Err number ↦ λ here e. cc
    ] refl

-- bytes are lines, and a line more, at most
pub few_steps : (bytes : List ℕ) (steps : List ScriptStep) → script_of bytes ≡ Ok steps → length steps ≤ length bytes
    + 1
few_steps bytes steps =
    elim (read_lines nothing_read (input_lines bytes)) as (λ r. read_lines nothing_read (input_lines bytes) ≡ r → (r >>= λ all. Ok all.steps) ≡ Ok steps → length steps ≤ length bytes + 1) [
      | Ok all ↦ λ here e. subst (λ l. length l ≤ length bytes + 1) (one_result _ refl e)
          (omega (arith, steps_of_lines nothing_read (input_lines bytes) all here, length-slice_split (λ b. b == 10) bytes, count_by-le-length (λ b. b == 10) bytes))
      | Err line ↦ λ here e. cc
    ] refl

-- a read script is no longer than an input may be
pub read_steps_are_few : (old new : Option (List ℕ)) (steps : List ScriptStep) → ReadsScript old new steps → length steps ≤ 1048577
read_steps_are_few old new steps reads = omega (arith, few_steps reads.bytes steps reads.script, reads.within)

pub read_to_the_end : (old new : Option (List ℕ)) (steps : List ScriptStep) → ReadsScript old new steps → IsAtEnd new
read_to_the_end old new steps reads = reads.at_end

pub ruleset read_scripts = (had_script, bad_line_of, read_steps_are_few, read_to_the_end)
