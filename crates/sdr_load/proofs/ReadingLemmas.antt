-- Steps that follow one another are read from their canonical lines.
use Rattle.std.proofs.Common.{◌≡◌, ◌==◌, ◌<◌, ℕ, zero, suc, ◌+◌, List, [], ◌∷◌, ◌++◌, Bool, true, false, not, cond, Option, Some, Result, Ok, Err, option_to_list, length, get_or, map, ap, refl, sym, subst, ◌∙◌, append_assoc, append-nil, arith}
use Rattle.std.proofs.lemmas.Bool.{and_parts}
use Rattle.std.proofs.lemmas.Bool.Decides.{nat_tests}
use Rattle.std.proofs.lemmas.List.Splits.{slice_split_at}
use Rattle.std.specs.List.{list_all}
use Rattle.sdr_load.specs.Text.{text_of}
use Rattle.sdr_model.specs.declared.script.ScriptStep.{ScriptStep}
use Rattle.sdr_words.specs.Canonical.{IsStep, line_for}
use Rattle.sdr_words.specs.Script.{◌>>=◌, Reading, input_lines, is_line_byte, line_says, nothing_read, read_line, read_lines, script_of}

-- the steps stand in lines from this one on, and each is one that a script may have behind those before it
abbrev pub Follows : List ScriptStep → ℕ → List ScriptStep → Type 0
Follows earlier line [] = Unit {0}
Follows earlier line (step ∷ steps) = (step.line ≡ line) × IsStep earlier step × Follows (earlier ++ step ∷ []) (line + 1) steps

-- steps that follow others
pub Follows-append : (earlier xs ys : List ScriptStep) (line : ℕ) → Follows earlier line xs → Follows (earlier ++ xs) (line + length xs) ys
    → Follows earlier line (xs ++ ys)
Follows-append earlier [] ys line these those =
    let same : line + 0 ≡ line = omega arith in
    subst (λ (n : ℕ). Follows earlier n ys) same (subst (λ (l : List ScriptStep). Follows l (line + 0) ys) (append-nil earlier) those)
Follows-append earlier (x ∷ xs) ys line these those =
    let same : line + suc (length xs) ≡ line + 1 + length xs = omega arith in (
      these.0,
      these.1,
      Follows-append (earlier ++ x ∷ []) xs ys (line + 1) these.2
          (subst (λ (n : ℕ). Follows ((earlier ++ x ∷ []) ++ xs) n ys) same
          (subst (λ (l : List ScriptStep). Follows l (line + suc (length xs)) ys) (sym (append_assoc earlier (x ∷ []) xs)) those)),
    )

abbrev reading : List ScriptStep → ℕ → Reading
reading steps next = record { steps = steps; next = next }

-- a line that gives a step has no other bytes than a line may have
may_stand : (all : Bool) (number : ℕ) (rest : Result (Option ScriptStep) ℕ) (step : ScriptStep) → cond (not all) (Err number) rest ≡ Ok (Some step) → all ≡ true
may_stand true number rest step is = refl
may_stand false number rest step is = cc

not_end : (b : ℕ) → is_line_byte b ≡ true → (b == 10) ≡ false
not_end b t = grind (arith, nat_tests)

no_end : (line : List ℕ) → list_all is_line_byte line ≡ true → (k d : ℕ) → k < length line → (get_or line k d == 10) ≡ false
no_end [] t k d lt = absurd (omega arith)
no_end (b ∷ line) t zero d lt = not_end b (and_parts (is_line_byte b) (list_all is_line_byte line) t).0
no_end (b ∷ line) t (suc k) d lt = no_end line (and_parts (is_line_byte b) (list_all is_line_byte line) t).1 k d (omega arith)

module _ (read : (earlier : List ScriptStep) (step : ScriptStep) → IsStep earlier step → line_says earlier step.line (line_for step) ≡ Ok (Some step)) where
  line_is_read : (earlier : List ScriptStep) (step : ScriptStep) → IsStep earlier step
      → read_line (reading earlier step.line) (line_for step) ≡ Ok (reading (earlier ++ step ∷ []) (step.line + 1))
  line_is_read earlier step is = ap (λ r. r >>= λ says. Ok (reading (earlier ++ option_to_list says) (step.line + 1))) (read earlier step is)

  lines_are_read : (earlier steps : List ScriptStep) (line : ℕ) (lines : List (List ℕ)) → Follows earlier line steps
      → read_lines (reading earlier line) (map line_for steps ++ lines) ≡ read_lines (reading (earlier ++ steps) (line + length steps)) lines
  lines_are_read earlier [] line lines follows =
      let same : line ≡ line + 0 = omega arith in
      ap (λ n. read_lines (reading earlier n) lines) same ∙ ap (λ l. read_lines (reading l (line + 0)) lines) (sym (append-nil earlier))
  lines_are_read earlier (step ∷ steps) line lines follows =
      let rest = map line_for steps ++ lines in
      let same : line + 1 + length steps ≡ line + suc (length steps) = omega arith in
      ap (λ n. read_line (reading earlier n) (line_for step) >>= λ now. read_lines now rest) (sym follows.0)
      ∙ ap (λ r. r >>= λ now. read_lines now rest) (line_is_read earlier step follows.1)
      ∙ ap (λ n. read_lines (reading (earlier ++ step ∷ []) (n + 1)) rest) follows.0
      ∙ lines_are_read (earlier ++ step ∷ []) steps (line + 1) lines follows.2
      ∙ ap (λ l. read_lines (reading l (line + 1 + length steps)) lines) (append_assoc earlier (step ∷ []) steps)
      ∙ ap (λ n. read_lines (reading (earlier ++ step ∷ steps) n) lines) same

  lines_of_text : (earlier steps : List ScriptStep) (line : ℕ) → Follows earlier line steps → input_lines (text_of steps) ≡ map line_for steps ++ [] ∷ []
  lines_of_text earlier [] line follows = refl
  lines_of_text earlier (step ∷ steps) line follows =
      let stands = may_stand (list_all is_line_byte (line_for step)) step.line _ step (read earlier step follows.1) in
      ap input_lines (append_assoc (line_for step) (10 ∷ []) (text_of steps))
      ∙ slice_split_at (λ b. b == 10) (line_for step) 10 (text_of steps) (no_end (line_for step) stands) refl
      ∙ ap (λ l. line_for step ∷ l) (lines_of_text (earlier ++ step ∷ []) steps (line + 1) follows.2)

  -- the text of steps that follow one another from the first line on is read as these steps
  pub text_is_read : (steps : List ScriptStep) → Follows [] 1 steps → script_of (text_of steps) ≡ Ok steps
  text_is_read steps follows =
      ap (λ lines. read_lines nothing_read lines >>= λ all. Ok all.steps) (lines_of_text [] steps 1 follows)
      ∙ ap (λ r. r >>= λ all. Ok all.steps) (lines_are_read [] steps 1 ([] ∷ []) follows)
      ∙ ap Ok (append-nil steps)
