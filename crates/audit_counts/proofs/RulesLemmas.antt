-- The first of some rules that a block breaks.
use Rattle.std.proofs.Common.{◌≡◌, ◌<◌, ◌+◌, ℕ, zero, suc, List, [], ◌∷◌, get_or, length, map, take, arith, ap, ◌∙◌, refl}
use Rattle.std.specs.Prelude.{Option, None, Some}
use Rattle.std.specs.Option.{option_or}
use Rattle.audit_owners.proofs.PlacesLemmas.{both_none, either_none}
use Rattle.audit_owners.specs.Places.{first_some}

module _ {X : Type 0} (f : X → Option ℕ) where
  -- behind some of which nothing is found, what is found of the next is found first
  pub some_here : (xs : List X) (i : ℕ) (d : X) (place : ℕ) → i < length xs → first_some (map f (take i xs)) ≡ None → f (get_or xs i d) ≡ Some place →
      first_some (map f xs) ≡ Some place
  some_here [] i d place less none here = absurd (omega (arith, less))
  some_here (x ∷ xs) zero d place less none here = ap (λ o. option_or o (first_some (map f xs))) here
  some_here (x ∷ xs) (suc i) d place less none here =
      let both = either_none (f x) (first_some (map f (take i xs))) none in
      ap (λ o. option_or o (first_some (map f xs))) both.0 ∙ some_here xs i d place (omega (arith, less)) both.1 here

  -- where nothing is found of the next either, nothing is of one more
  pub none_more : (xs : List X) (i : ℕ) (d : X) → i < length xs → first_some (map f (take i xs)) ≡ None → f (get_or xs i d) ≡ None →
      first_some (map f (take (i + 1) xs)) ≡ None
  none_more [] i d less none here = absurd (omega (arith, less))
  none_more (x ∷ xs) zero d less none here = both_none (f x) None here refl
  none_more (x ∷ xs) (suc i) d less none here =
      let both = either_none (f x) (first_some (map f (take i xs))) none in
      let next : suc i + 1 ≡ suc (i + 1) = omega arith in
      ap (λ (n : ℕ). first_some (map f (take n (x ∷ xs)))) next
      ∙ both_none (f x) (first_some (map f (take (i + 1) xs))) both.0 (none_more xs i d (omega (arith, less)) both.1 here)
