-- Lists after an insert, a remove or a set.
use Rattle.std.proofs.Common.{◌≡◌, ℕ, ◌+◌, ◌<◌, ◌≤◌, List, [], ◌∷◌, ◌++◌, suc, Bool, not, cond, Some, None, map, length, take, drop, nat_lt, refl, sym, subst, ap, ◌∙◌, arith}
use Rattle.std.specs.Cmp.{IsEquivalence}
use Rattle.std.specs.List.{IsDistinct, count_by, insert, position_or_len, prefix_len, remove}
use Rattle.std.specs.List.Sorted.{IsNonDecreasingBy}
use Rattle.std.specs.Prelude.{All, position}
use Rattle.std.proofs.lemmas.Bool.{ltb-false, ltb-true}
use Rattle.std.proofs.lemmas.Grind.{elements}
use Rattle.std.proofs.lemmas.List.{drop-map, map-append, take-map}
use Rattle.std.proofs.lemmas.List.Edits.{get_or-remove_above, get_or-remove_below, length-remove}
use Rattle.std.proofs.lemmas.List.Sorted.{IsNonDecreasingBy-insert}
use Rattle.std.proofs.lemmas.List.Sums.{prefix_len-le-length, prefix_len_passes, prefix_len_stops, sum_by-insert, sum_by-remove}
use Rattle.law_steps.proofs.DistinctLemmas.{count_by-cons, from_once, on_test, once, same_counts, weight, weight_of}

module _ {X Y : Type 0} (f : X → Y) where
  -- what a function gives of each element, with one more
  pub map-insert : (xs : List X) (i : ℕ) (x : X) → map f (insert xs i x) ≡ insert (map f xs) i (f x)
  map-insert xs i x =
      map-append f (take i xs) (x ∷ drop i xs)
      ∙ ap (λ front. front ++ f x ∷ map f (drop i xs)) (sym (take-map f i xs))
      ∙ ap (λ back. take i (map f xs) ++ f x ∷ back) (sym (drop-map f i xs))

  -- with one less
  pub map-remove : (xs : List X) (i : ℕ) → map f (remove xs i) ≡ remove (map f xs) i
  map-remove xs i =
      map-append f (take i xs) (drop (suc i) xs)
      ∙ ap (λ front. front ++ map f (drop (suc i) xs)) (sym (take-map f i xs))
      ∙ ap (λ back. take i (map f xs) ++ back) (sym (drop-map f (suc i) xs))

  -- how many pass in front
  pub prefix_len-map : (p : Y → Bool) (xs : List X) → prefix_len p (map f xs) ≡ prefix_len (λ x. p (f x)) xs
  prefix_len-map p [] = refl
  prefix_len-map p (x ∷ xs) = ap (λ n. cond (p (f x)) (1 + n) 0) (prefix_len-map p xs)

  -- how many pass
  pub count_by-map : (p : Y → Bool) (xs : List X) → count_by p (map f xs) ≡ count_by (λ x. p (f x)) xs
  count_by-map p [] = refl
  count_by-map p (x ∷ xs) =
      omega (arith, count_by-cons p (f x) (map f xs), count_by-cons (λ y. p (f y)) x xs, count_by-map p xs)

-- none passes in a list without a first one that does
none_passes : {X : Type 0} (p : X → Bool) (xs : List X) → length xs ≤ position_or_len p xs → count_by p xs ≡ 0
none_passes p [] none = refl
none_passes p (x ∷ xs) none =
    let rest = none_passes p xs in
    on_test (p x)
    (λ e. absurd (omega (arith, none, ap (λ b. cond (not b) (1 + position_or_len p xs) 0) e)))
    (λ e. omega (
      arith,
      count_by-cons p x xs,
      weight_of e,
      rest (omega (arith, none, ap (λ b. cond (not b) (1 + position_or_len p xs) 0) e)),
    ))

pub no_position : {X : Type 0} (p : X → Bool) (xs : List X) → position p xs ≡ None → count_by p xs ≡ 0
no_position p xs none =
    on_test (nat_lt (position_or_len p xs) (length xs))
    (λ e. let some : Some (position_or_len p xs) ≡ None =
    sym (ap (λ b. cond b (Some (position_or_len p xs)) None) e) ∙ none in absurd cc)
    (λ e. none_passes p xs (ltb-false _ _ e))

-- P of each, with one more or one less
pub All-insert : {X : Type 0} (P : X → Type 0) (xs : List X) (i : ℕ) (x : X) → i ≤ length xs → All P xs → P x
    → All P (insert xs i x)
All-insert P xs i x within all one = grind (arith, elements)

pub All-remove : {X : Type 0} (P : X → Type 0) (xs : List X) (i : ℕ) → i < length xs → All P xs → All P (remove xs i)
All-remove P xs i within all k d inside =
    let short : length (remove xs i) + 1 ≡ length xs = length-remove xs i within in
    on_test (nat_lt k i)
    (λ first. subst P (sym (get_or-remove_below xs i d k (ltb-true _ _ first) within))
    (all k d (omega (arith, short, inside))))
    (λ second. subst P (sym (get_or-remove_above xs i d k (ltb-false _ _ second) within))
    (all (k + 1) d (omega (arith, short, inside))))

-- keys that differ, with one more or one less
module _ {K : Type 0} {eq : K → K → Bool} (laws : IsEquivalence eq) where
  pub IsDistinct-insert : (xs : List K) (i : ℕ) (x : K) → count_by (eq x) xs ≡ 0 → IsDistinct eq xs
      → IsDistinct eq (insert xs i x)
  IsDistinct-insert xs i x none distinct = from_once laws (insert xs i x) (λ k.
      on_test (eq k x)
      (λ e. omega (arith, sum_by-insert (λ y. weight (eq k y)) xs i x, weight_of e, same_counts laws k x e xs, none))
      (λ e. omega (arith, sum_by-insert (λ y. weight (eq k y)) xs i x, weight_of e, once laws xs distinct k)))

  pub IsDistinct-remove : (xs : List K) (i : ℕ) (d : K) → i < length xs → IsDistinct eq xs → IsDistinct eq (remove xs i)
  IsDistinct-remove xs i d within distinct = from_once laws (remove xs i) (λ k.
      omega (arith, sum_by-remove (λ y. weight (eq k y)) xs i d within, once laws xs distinct k))

-- numbers that don't fall, with one more behind those that are below it, or one less
module _ {X : Type 0} (n : X → ℕ) where
  pub IsNonDecreasingBy-insert_behind : (xs : List X) (x : X) → IsNonDecreasingBy n xs
      → IsNonDecreasingBy n (insert xs (prefix_len (λ y. nat_lt (n y) (n x)) xs) x)
  IsNonDecreasingBy-insert_behind xs x rises =
      let place = prefix_len (λ y. nat_lt (n y) (n x)) xs in
      IsNonDecreasingBy-insert n xs place x rises (prefix_len-le-length (λ y. nat_lt (n y) (n x)) xs)
      (λ k d below. omega (arith, ltb-true _ _ (prefix_len_passes (λ y. nat_lt (n y) (n x)) xs k d below)))
      (λ k d above within. omega (
        arith,
        rises place k d above within,
        ltb-false _ _ (prefix_len_stops (λ y. nat_lt (n y) (n x)) xs d (omega (arith, above, within))),
      ))

  pub IsNonDecreasingBy-remove : (xs : List X) (i : ℕ) → i < length xs → IsNonDecreasingBy n xs
      → IsNonDecreasingBy n (remove xs i)
  IsNonDecreasingBy-remove xs i within rises j k d upto inside =
      let short : length (remove xs i) + 1 ≡ length xs = length-remove xs i within in
      on_test (nat_lt j i)
      (λ first. on_test (nat_lt k i)
      (λ second. omega (
        arith,
        rises j k d upto (omega (arith, short, inside)),
        ap n (get_or-remove_below xs i d j (ltb-true _ _ first) within),
        ap n (get_or-remove_below xs i d k (ltb-true _ _ second) within),
      ))
      (λ second. omega (
        arith,
        rises j (k + 1) d (omega (arith, upto)) (omega (arith, short, inside)),
        ap n (get_or-remove_below xs i d j (ltb-true _ _ first) within),
        ap n (get_or-remove_above xs i d k (ltb-false _ _ second) within),
      )))
      (λ first. omega (
        arith,
        rises (j + 1) (k + 1) d (omega (arith, upto)) (omega (arith, short, inside)),
        ap n (get_or-remove_above xs i d j (ltb-false _ _ first) within),
        ap n (get_or-remove_above xs i d k (omega (arith, upto, ltb-false _ _ first)) within),
      ))
