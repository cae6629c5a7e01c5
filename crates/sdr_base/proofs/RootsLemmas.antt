-- A control word that is set is one of the words in the row of them.
use Rattle.std.proofs.Common.{◌≡◌, ◌≤◌, ◌<◌, ℕ, ◌+◌, ◌-◌, ◌==◌, List, Bool, true, false, cond, inl, inr, length, set, refl, sym, ap, ◌∙◌, arith, get_or}
use Rattle.std.specs.Prelude.{nat_lt}
use Rattle.std.proofs.lemmas.Bool.{cases_lt, eqb-true, eq-eqb, le-ltb, lt-ltb}
use Rattle.std.proofs.lemmas.List.{get_or-set_other, get_or-set_same}
use Rattle.sdr_base.specs.Blocks.{with_at}
use Rattle.sdr_base.specs.Roots.{roots_by}

root_set : (words : List ℕ) (i value : ℕ) → i < length words → (q : ℕ) →
    with_at (roots_by words) (89 + i) value q ≡ roots_by (set words i value) q
unfolding with_at roots_by
root_set words i value within q = by (q == 89 + i) refl
  where
    below : q < 89 → (ws : List ℕ) → cond (nat_lt q 89) 0 (get_or ws (q - 89) 0) ≡ 0
    below lt ws = ap (λ b. cond b 0 (get_or ws (q - 89) 0)) (lt-ltb q 89 lt)

    from : 89 ≤ q → (ws : List ℕ) → cond (nat_lt q 89) 0 (get_or ws (q - 89) 0) ≡ get_or ws (q - 89) 0
    from ge ws = ap (λ b. cond b 0 (get_or ws (q - 89) 0)) (le-ltb q 89 ge)

    apart : (q == 89 + i) ≡ false → 89 ≤ q → (q - 89 ≡ i → ⊥)
    apart is ge same =
        let t : (q == 89 + i) ≡ true = eq-eqb q (89 + i) (omega (arith, ge, same)) in
        let d : true ≡ false = sym t ∙ is in cc

    by : (b : Bool) → (q == 89 + i) ≡ b →
        cond (q == 89 + i) value (cond (nat_lt q 89) 0 (get_or words (q - 89) 0))
        ≡ cond (nat_lt q 89) 0 (get_or (set words i value) (q - 89) 0)
    by true is =
        let at : q ≡ 89 + i = eqb-true q (89 + i) is in
        let place : q - 89 ≡ i = omega (arith, at) in
        ap (λ b. cond b value (cond (nat_lt q 89) 0 (get_or words (q - 89) 0))) is
        ∙ sym (from (omega (arith, at)) (set words i value)
        ∙ ap (λ k. get_or (set words i value) k 0) place ∙ get_or-set_same words i value 0 within)
    by false is =
        ap (λ b. cond b value (cond (nat_lt q 89) 0 (get_or words (q - 89) 0))) is
        ∙ elim (cases_lt q 89) [
          | inl lt ↦ below lt words ∙ sym (below lt (set words i value))
          | inr ge ↦
              from ge words ∙ sym (get_or-set_other words i (q - 89) value 0 (apart is ge))
              ∙ sym (from ge (set words i value))
        ]

-- the control word 89 + i is the one at place i
pub with_at-roots_by : (words : List ℕ) (i value : ℕ) → i < length words →
    with_at (roots_by words) (89 + i) value ≡ roots_by (set words i value)
with_at-roots_by words i value within = λ j q. root_set words i value within q j
