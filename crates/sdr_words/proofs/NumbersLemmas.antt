-- Numbers of which the first five stand in place.
use Rattle.std.proofs.Common.{◌≡◌, ◌≤◌, ◌<◌, ◌+◌, ◌∙◌, ◌⊎◌, ℕ, List, [], ◌∷◌, ◌++◌, length, slice_index, set, take, replicate, ap, sym, arith, refl, inl, inr}
use Rattle.std.proofs.lemmas.Bool.{cases_lt}
use Rattle.std.proofs.lemmas.Grind.{take-set_at}
use Rattle.std.proofs.lemmas.List.{append-nil, get_or_append_left, get_or-take, get_or_past, get_or-set_other, get_or-replicate, length-take, length-replicate, length-set}
use Rattle.sdr_words.specs.Numbers.{StandInPlace}

-- five zeros have a zero at each place
zeros_at : (place : ℕ) → slice_index (replicate 5 0) place ≡ 0
zeros_at place =
    let l : (place < 5) ⊎ (5 ≤ place) = cases_lt place 5 in
    elim l [ inl here ↦ get_or-replicate 5 place 0 0 here | inr past ↦ get_or_past (replicate 5 0) place 0 (omega (arith, length-replicate {A = ℕ} 5 0)) ]

-- no numbers
pub none_stand : StandInPlace (replicate 5 0) 0 []
none_stand = record { five = length-replicate {A = ℕ} 5 0; few = omega arith; zeros = λ place from. zeros_at place; behind = λ few. refl }

-- one more, where there are fewer than five
pub more_stand : (first rest : List ℕ) (count number : ℕ) → StandInPlace first count rest → count < 5 → StandInPlace (set first count number) (count + 1) rest
more_stand first rest count number are few = record {
  five = length-set {A = ℕ} first count number ∙ are.five;
  few = omega arith;
  zeros = λ place from. get_or-set_other first count place number 0 (λ same. omega (arith, same)) ∙ are.zeros place (omega arith);
  behind = λ fewer. are.behind few;
}

-- it is the last of them
pub more_shown : (first rest : List ℕ) (count number : ℕ) → StandInPlace first count rest → count < 5
    → take (count + 1) (set first count number) ++ rest ≡ (take count first ++ rest) ++ number ∷ []
more_shown first rest count number are few =
    ap (λ r. take (count + 1) (set first count number) ++ r) (are.behind few) ∙ append-nil (take (count + 1) (set first count number))
    ∙ take-set_at first count (count + 1) number refl (omega arith)
    ∙ ap (λ l. l ++ number ∷ []) (sym (append-nil (take count first)) ∙ ap (λ r. take count first ++ r) (sym (are.behind few)))

-- behind five, one more stands at the end of the rest
pub rest_stand : (first rest rest' : List ℕ) (count : ℕ) → StandInPlace first count rest → 5 ≤ count → StandInPlace first count rest'
rest_stand first rest rest' count are full = record { five = are.five; few = are.few; zeros = are.zeros; behind = λ fewer. absurd (omega arith) }

-- the first five are those that stand in place
pub shown_at : (first rest : List ℕ) (count place : ℕ) → StandInPlace first count rest → place < 5
    → slice_index (take count first ++ rest) place ≡ slice_index first place
shown_at first rest count place are within =
    let l : (place < count) ⊎ (count ≤ place) = cases_lt place count in
    let many : length (take count first) ≡ count = omega (arith, length-take count first) in
    elim l [
      | inl here ↦ get_or_append_left (take count first) rest 0 place (omega (arith, many)) ∙ get_or-take count first place 0 here
      | inr past ↦
          ap (λ r. slice_index (take count first ++ r) place) (are.behind (omega arith)) ∙ ap (λ l. slice_index l place) (append-nil (take count first))
          ∙ get_or_past (take count first) place 0 (omega (arith, many)) ∙ sym (are.zeros place past)
    ]

pub ruleset numbers = (none_stand, more_stand, more_shown, rest_stand, shown_at)
