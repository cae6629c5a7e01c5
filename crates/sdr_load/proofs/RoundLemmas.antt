-- How long a round is, and how many rounds ended before it.
use Rattle.std.proofs.Common.{◌≡◌, ◌==◌, ◌≤◌, ◌<◌, ℕ, zero, suc, ◌+◌, ◌-◌, ◌/◌, ◌%◌, [], ◌∷◌, ◌++◌, Bool, true, false, not, cond, length, count_by, ap, refl, ◌∙◌, arith, lit≤, lit<}
use Rattle.std.proofs.lemmas.Bool.Decides.{nat_tests}
use Rattle.std.proofs.lemmas.List.Sums.{sum_by_push}
use Rattle.std.specs.List.{range_with_len}
use Rattle.sdr_load.specs.Rounds.{adding, byte_in, closing, round_daemon, dropping, drops_oldest, is_round_cancelled, length_in, opening, round_of}

-- one number more, at the end
pub range_push : (a n : ℕ) → range_with_len a (suc n) ≡ range_with_len a n ++ (a + n) ∷ []
range_push a zero = let same : a ≡ a + 0 = omega arith in ap (λ k. k ∷ []) same
range_push a (suc n) =
    let same : a + 1 + n ≡ a + suc n = omega arith in
    ap (λ l. a ∷ l) (range_push (a + 1) n ∙ ap (λ k. range_with_len (a + 1) n ++ k ∷ []) same)

one_ended : (n : ℕ) → n - n / 3 + cond (not ((1 + n) % 3 == 0)) 1 0 ≡ suc n - suc n / 3
one_ended n = grind (arith, nat_tests)

-- of the rounds from 1 to n, all but every third ended
pub ended_before : (n : ℕ) → count_by (λ earlier. not (is_round_cancelled earlier)) (range_with_len 1 n) ≡ n - n / 3
ended_before zero = refl
ended_before (suc n) =
    ap (count_by (λ earlier. not (is_round_cancelled earlier))) (range_push 1 n)
    ∙ sum_by_push (λ earlier. cond (not (is_round_cancelled earlier)) 1 0) (range_with_len 1 n) (1 + n)
    ∙ ap (λ k. k + cond (not (is_round_cancelled (1 + n))) 1 0) (ended_before n) ∙ one_ended n

later_is_short : (drops cancelled : Bool) (daemon bytes byte : ℕ)
    → length (adding daemon bytes byte ++ cond drops (dropping daemon) [] ++ closing daemon cancelled ∷ []) ≤ 10
later_is_short true cancelled daemon bytes byte = lit≤ tt
later_is_short false cancelled daemon bytes byte = lit≤ tt

later_has_some : (drops cancelled : Bool) (daemon bytes byte : ℕ)
    → 0 < length (adding daemon bytes byte ++ cond drops (dropping daemon) [] ++ closing daemon cancelled ∷ [])
later_has_some true cancelled daemon bytes byte = lit< tt
later_has_some false cancelled daemon bytes byte = lit< tt

-- a round has at most ten statements
pub round_is_short : (round : ℕ) → length (round_of round) ≤ 10
unfolding round_of
round_is_short round =
    elim (round == 0) as (λ b. length (cond b (opening 1) (adding (round_daemon round) (length_in round) (byte_in round)
    ++ cond (drops_oldest round) (dropping (round_daemon round)) [] ++ closing (round_daemon round) (is_round_cancelled round) ∷ [])) ≤ 10) [
      | true ↦ lit≤ tt
      | false ↦ later_is_short (drops_oldest round) (is_round_cancelled round) (round_daemon round) (length_in round) (byte_in round)
    ]

-- and at least one
pub round_has_some : (round : ℕ) → 0 < length (round_of round)
unfolding round_of
round_has_some round =
    elim (round == 0) as (λ b. 0 < length (cond b (opening 1) (adding (round_daemon round) (length_in round) (byte_in round)
    ++ cond (drops_oldest round) (dropping (round_daemon round)) [] ++ closing (round_daemon round) (is_round_cancelled round) ∷ []))) [
      | true ↦ lit< tt
      | false ↦ later_has_some (drops_oldest round) (is_round_cancelled round) (round_daemon round) (length_in round) (byte_in round)
    ]
