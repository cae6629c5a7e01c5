-- The steps that are left, where a step is passed.
use Rattle.std.proofs.Common.{◌≡◌, ◌≤◌, ◌<◌, inl, inr, ℕ, zero, suc, ◌+◌, ◌-◌, min, true≢false, List, [], ◌∷◌, ◌++◌, length, drop, ap, refl, sym, ◌∙◌, None, Some, Option, arith}
use Rattle.std.proofs.lemmas.Bool.{cases_lt}
use Rattle.std.proofs.lemmas.List.{drop_all, drop_more}
use Rattle.std.specs.Borrow.{Bor}
use Rattle.std.specs.Option.{option_copied}
use Rattle.std.specs.Prelude.{IfSome, IsNone}
use Rattle.std.specs.Slice.{IsItemAt}
use Rattle.sdr_load.proofs.StatementLemmas.{length-numbered, numbered-append}
use Rattle.sdr_load.specs.Left.{IsHeld, left_of}
use Rattle.sdr_load.specs.Rounds.{round_of}
use Rattle.sdr_load.specs.Schedule.{said_from, script_for}
use Rattle.sdr_load.specs.Statements.{numbered}
use Rattle.sdr_model.specs.declared.script.ScriptStep.{ScriptStep}

-- the first of some rounds, and those behind it
rounds_from : (line round rounds more : ℕ) → more ≡ suc rounds
    → numbered line (said_from round more) ≡ numbered line (round_of round) ++ numbered (line + length (numbered line (round_of round))) (said_from (round + 1) rounds)
rounds_from line round rounds more is =
    let same : length (round_of round) ≡ length (numbered line (round_of round)) = sym (length-numbered line (round_of round)) in
    ap (λ n. numbered line (said_from round n)) is
    ∙ numbered-append line (round_of round) (said_from (round + 1) rounds)
    ∙ ap (λ n. numbered line (round_of round) ++ numbered (line + n) (said_from (round + 1) rounds)) same

-- what is left where round 0 was made
pub left_at_first : (steps : List ScriptStep) (line rounds : ℕ) → steps ≡ numbered 1 (round_of 0) → line ≡ 1 + length steps
    → left_of steps 0 line 0 rounds ≡ script_for rounds
left_at_first steps line rounds are is =
    let more : rounds + 1 ≡ suc rounds = omega arith in
    let all : rounds - 0 ≡ rounds = omega arith in
    ap (λ n. steps ++ numbered n (said_from 1 (rounds - 0))) is
    ∙ ap (λ n. steps ++ numbered (1 + length steps) (said_from 1 n)) all
    ∙ ap (λ l. l ++ numbered (1 + length l) (said_from 1 rounds)) are
    ∙ sym (rounds_from 1 0 rounds (rounds + 1) more)

-- a list behind its first item
after_one : (xs later : List ScriptStep) (done : ℕ) → done < length xs → drop 1 (drop done xs ++ later) ≡ drop (done + 1) xs ++ later
after_one [] later done within = absurd (omega arith)
after_one (x ∷ xs) later zero within = refl
after_one (x ∷ xs) later (suc done) within =
    let same : suc (done + 1) ≡ suc done + 1 = omega arith in
    after_one xs later done (omega arith) ∙ ap (λ n. drop n (x ∷ xs) ++ later) same

module _ (steps : List ScriptStep) (done line round last : ℕ) (held : IsHeld round last (length steps) done line) where
  -- nothing is left where all steps of the last round are done
  left_of_none : length steps ≤ done → left_of steps done line round last ≡ []
  left_of_none all =
      let none : last - round ≡ 0 = omega (arith, held.ended all) in
      ap (λ l. l ++ numbered line (said_from (round + 1) (last - round))) (drop_all done steps all)
      ∙ ap (λ n. numbered line (said_from (round + 1) n)) none

  module _ (value : List ScriptStep) (view : left_of steps done line round last ≡ value) where
    -- where no step is next none is left
    pub none_left : (next : Option (Bor ScriptStep)) → IsItemAt steps done next → IsNone next → value ≡ []
    none_left None item none = sym view ∙ left_of_none item.3
    none_left (Some step) item none = absurd (true≢false none)

    -- the next step is the first that is left
    pub some_left : (next : Option (Bor ScriptStep)) → IsItemAt steps done next → IfSome (option_copied next) (λ step. value ≡ step ∷ drop 1 value)
    some_left None item = tt
    some_left (Some step) item =
        let later = numbered line (said_from (round + 1) (last - round)) in
        let within : done < length steps = item.3.0 in
        sym view
        ∙ ap (λ l. l ++ later) (drop_more steps done step.now within ∙ ap (λ s. s ∷ drop (done + 1) steps) (sym item.1))
        ∙ ap (λ l. step.now ∷ l) (sym (after_one steps later done within) ∙ ap (drop 1) view)

-- what is left in a round where one more of its steps is done, if one isn't
pub left_of_passed : (steps : List ScriptStep) (done line round last now : ℕ) → IsHeld round last (length steps) done line
    → now ≡ done + min (length steps - done) 1
    → left_of steps now line round last ≡ drop 1 (left_of steps done line round last)
left_of_passed steps done line round last now held is =
    let later = numbered line (said_from (round + 1) (last - round)) in
    elim (cases_lt done (length steps)) [
      | inl within ↦
          let next : now ≡ done + 1 = omega (arith, within, is) in
          ap (λ n. left_of steps n line round last) next ∙ sym (after_one steps later done within)
      | inr all ↦
          let same : now ≡ done = omega (arith, all, is) in
          let none = left_of_none steps done line round last held all in
          ap (λ n. left_of steps n line round last) same ∙ none ∙ sym (ap (drop 1) none)
    ]

-- where the last round isn't the one that is held a step of it is left
still_open : (round last held done line : ℕ) → IsHeld round last held done line → round < last → done < held
still_open round last held done line is more =
    elim (cases_lt done held) [
      | inl within ↦ within
      | inr all ↦ absurd (omega (arith, is.ended all, more))
    ]

-- what is left where the last step of a round is done and the next round was made
pub left_of_next : (steps next : List ScriptStep) (done line round last now : ℕ) → IsHeld round last (length steps) done line → round < last
    → length steps ≤ done + 1 → next ≡ numbered line (round_of (round + 1)) → now ≡ line + length next
    → left_of next 0 now (round + 1) last ≡ drop 1 (left_of steps done line round last)
left_of_next steps next done line round last now held more end are is =
    let later = numbered line (said_from (round + 1) (last - round)) in
    let behind : ℕ → List ScriptStep = λ n. numbered n (said_from (round + 1 + 1) (last - (round + 1))) in
    let rounds : last - round ≡ suc (last - (round + 1)) = omega (arith, more) in
    ap (λ n. next ++ behind n) is
    ∙ ap (λ l. l ++ behind (line + length l)) are
    ∙ sym (rounds_from line (round + 1) (last - (round + 1)) (last - round) rounds)
    ∙ sym (ap (λ l. l ++ later) (drop_all (done + 1) steps end))
    ∙ sym (after_one steps later done (still_open round last (length steps) done line held more))
