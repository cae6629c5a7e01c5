-- The script of an input by its ended lines, and of a source by what was read of it.
use Rattle.std.proofs.Common.{◌≡◌, ◌==◌, IfSome, IfOk, IfErr, ◌<◌, ◌++◌, ◌⊎◌, inl, inr, ℕ, List, [], ◌∷◌, false, Option, None, Some, Result, Ok, Err, length, take, nat_le, refl, ap, sym, ◌∙◌, append-nil, arith, length-append}
use Rattle.std.proofs.lemmas.Bool.{cond-true, cond-false}
use Rattle.std.proofs.lemmas.Bool.Decides.{leb_tells}
use Rattle.std.proofs.lemmas.List.{take-append-le}
use Rattle.std.proofs.lemmas.List.Splits.{length-slice_split}
use Rattle.std.specs.Io.KnownBytes.{Consumes, IsAtEnd}
use Rattle.sdr_words.proofs.ReadingLemmas.{read_lines-append}
use Rattle.sdr_words.specs.LineAnswers.{Stops, GivesScript}
use Rattle.sdr_words.specs.Reading.{ReadsInput, ReadsScript, NamesLine}
use Rattle.sdr_words.specs.Script.{◌>>=◌, Reading, nothing_read, input_lines, ended_lines, but_last, longest_input, read_line, read_lines, script_of, refused_behind, input_script}
use Rattle.sdr_words.specs.declared.error.ScriptError.{ScriptError}
use Rattle.sdr_words.specs.declared.error.ScriptError.TheVariants as errors
use Rattle.sdr_model.specs.declared.script.ScriptStep.{ScriptStep}

last_of : {A : Type 0} (xs : List A) → 0 < length xs → (x : A) × (xs ≡ but_last xs ++ x ∷ [])
last_of [] some = absurd (omega arith)
last_of (x ∷ []) some = (x, refl)
last_of (x ∷ y ∷ xs) some = let last = last_of (y ∷ xs) (omega arith) in (last.0, ap (λ l. x ∷ l) last.1)

module _ (old : Reading) (input : List ℕ) (fresh : old ≡ nothing_read) where
  -- the script is read by the ended lines and the last one
  script-parts : (last : List ℕ) → input_lines input ≡ ended_lines input ++ last ∷ []
      → script_of input
      ≡ (read_lines old (ended_lines input) >>= λ ended. read_lines ended (last ∷ [])) >>= λ all. Ok all.steps
  script-parts last parts =
      ap (λ l. read_lines nothing_read l >>= λ all. Ok all.steps) parts
      ∙ ap (λ d. read_lines d (ended_lines input ++ last ∷ []) >>= λ all. Ok all.steps) (sym fresh)
      ∙ ap (λ r. r >>= λ all. Ok all.steps) (read_lines-append old (ended_lines input) (last ∷ []))

  module _ (last : List ℕ) (ended : Reading) (parts : input_lines input ≡ ended_lines input ++ last ∷ [])
      (reads : read_lines old (ended_lines input) ≡ Ok ended) where
    script-last : script_of input ≡ (read_line ended last >>= λ all. Ok all) >>= λ all. Ok all.steps
    script-last = script-parts last parts
        ∙ ap (λ r. (r >>= λ ended. read_lines ended (last ∷ [])) >>= λ all. Ok all.steps) reads

    -- the last line was read
    pub script-read : (all : Reading) → read_line ended last ≡ Ok all → script_of input ≡ Ok all.steps
    script-read all read = script-last ∙ ap (λ r. (r >>= λ all. Ok all) >>= λ all. Ok all.steps) read

    -- the last line is refused
    pub Stops-last : (error : ScriptError) → Stops error (read_line ended last) → Stops error (script_of input)
    Stops-last errors.Input stops = stops
    Stops-last (errors.Line line) stops = script-last ∙ ap (λ r. (r >>= λ all. Ok all) >>= λ all. Ok all.steps) stops
    Stops-last errors.NoMemory stops = tt

  -- an ended line is refused
  pub Stops-ended : (error : ScriptError) → Stops error (read_lines old (ended_lines input))
      → Stops error (script_of input)
  Stops-ended errors.Input stops = stops
  Stops-ended (errors.Line line) stops =
      let last = last_of (input_lines input) (omega (arith, length-slice_split (λ b. b == 10) input)) in
      script-parts last.0 last.1
      ∙ ap (λ r. (r >>= λ ended. read_lines ended (last.0 ∷ [])) >>= λ all. Ok all.steps) stops
  Stops-ended errors.NoMemory stops = tt

-- a front that goes on has no script
no_script_behind : (front : List ℕ) (steps : List ScriptStep) → refused_behind front ≡ Ok steps → ⊥
no_script_behind front steps =
    let refuses : Reading → Result (List ScriptStep) ℕ = λ ended. Err ended.next in
    elim (read_lines nothing_read (ended_lines front)) as (λ r. (r >>= refuses) ≡ Ok steps → ⊥)
    [ Ok ended ↦ λ e. cc | Err line ↦ λ e. cc ]

too_long : (n : ℕ) → longest_input < n → nat_le n longest_input ≡ false
too_long n long =
    elim (leb_tells n longest_input)
    [ inl within ↦ absurd (omega (arith, long, within.1)) | inr beyond ↦ beyond.0 ]

-- what stands behind too many bytes changes nothing
input_script-append : (bytes more : List ℕ) → longest_input < length bytes → input_script (bytes ++ more)
    ≡ input_script bytes
input_script-append bytes more long =
    cond-false _ _ _ (too_long (length (bytes ++ more)) (omega (arith, long, length-append bytes more)))
    ∙ ap refused_behind (take-append-le longest_input bytes more (omega (arith, long)))
    ∙ sym (cond-false _ _ _ (too_long (length bytes) long))

-- what was read far enough has the script of the whole input
whole_script : (old new : Option (List ℕ)) (bytes : List ℕ) (given : Result (List ScriptStep) ℕ) →
    Consumes old new bytes
    → IsAtEnd new ⊎ longest_input < length bytes → input_script bytes ≡ given
    → IfSome old (λ input. input_script input ≡ given)
whole_script None new bytes given taken far script = tt
whole_script (Some xs) None bytes given taken far script = absurd taken
whole_script (Some xs) (Some ys) bytes given taken (inl end) script =
    ap input_script (taken ∙ ap (λ l. bytes ++ l) end ∙ append-nil bytes) ∙ script
whole_script (Some xs) (Some ys) bytes given taken (inr long) script =
    ap input_script taken ∙ input_script-append bytes ys long ∙ script

ReadsScript-from : (old new : Option (List ℕ)) (bytes : List ℕ) (steps : List ScriptStep) → ReadsInput old new bytes
    → input_script bytes ≡ Ok steps → ReadsScript old new steps
ReadsScript-from old new bytes steps reads script =
    elim (leb_tells (length bytes) longest_input) [
      | inl within ↦ record {
        bytes = bytes;
        taken = reads.taken;
        at_end = elim reads.far [ inl end ↦ end | inr long ↦ absurd (omega (arith, long, within.1)) ];
        within = within.1;
        script = sym (cond-true _ _ _ within.0) ∙ script;
        whole = whole_script old new bytes (Ok steps) reads.taken reads.far script;
      }
      | inr beyond ↦
          absurd (no_script_behind (take longest_input bytes) steps (sym (cond-false _ _ _ beyond.0) ∙ script))
    ]

-- what reading and the script of what was read make together
pub script_result : (old new : Option (List ℕ)) (bytes : List ℕ) (result : Result (List ScriptStep) ScriptError)
    → ReadsInput old new bytes → GivesScript result (input_script bytes) → IfOk result (ReadsScript old new)
script_result old new bytes (Ok steps) reads gives = ReadsScript-from old new bytes steps reads gives
script_result old new bytes (Err error) reads gives = tt

pub line_result : (old new : Option (List ℕ)) (bytes : List ℕ) (result : Result (List ScriptStep) ScriptError)
    → ReadsInput old new bytes → GivesScript result (input_script bytes) → IfErr result (NamesLine old new)
line_result old new bytes (Ok steps) reads gives = tt
line_result old new bytes (Err errors.Input) reads gives = tt
line_result old new bytes (Err (errors.Line line)) reads gives = record {
  bytes = bytes;
  taken = reads.taken;
  refused = gives;
  whole = whole_script old new bytes (Err line) reads.taken reads.far gives;
}
line_result old new bytes (Err errors.NoMemory) reads gives = tt
