-- Sums over the views of all seats.
use Rattle.std.proofs.Common.{◌≡◌, ◌≢◌, ℕ, zero, suc, ◌+◌, ◌*◌, ◌^◌, ◌≤◌, List, [], ◌∷◌, set, sym, ap, refl, arith}
use Rattle.std.specs.Prelude.{sum_by}
use Rattle.std.proofs.lemmas.List.Sums.{sum_by-cons}
use mathlib.Core.Option.{some, some-injective, some-ne-none}
use lib.ListN.{get_elem?}

module _ {A : Type 0} (f : A → ℕ) where
  -- the sum after one was changed
  pub sum_by-at : (l : List A) (i : ℕ) (a b : A) → get_elem? l i ≡ some a → sum_by f (set l i b) + f a ≡ sum_by f l + f b
  sum_by-at [] i a b e = absurd (some-ne-none a (sym e))
  sum_by-at (x ∷ xs) zero a b e = omega (arith, ap f (some-injective x a e), sum_by-cons f b xs, sum_by-cons f x xs)
  sum_by-at (x ∷ xs) (suc i) a b e = omega (arith, sum_by-at xs i a b e, sum_by-cons f x (set xs i b), sum_by-cons f x xs)

  -- one is at most the sum
  pub one-le-sum_by : (l : List A) (i : ℕ) (a : A) → get_elem? l i ≡ some a → f a ≤ sum_by f l
  one-le-sum_by [] i a e = absurd (some-ne-none a (sym e))
  one-le-sum_by (x ∷ xs) zero a e = omega (arith, ap f (some-injective x a e), sum_by-cons f x xs)
  one-le-sum_by (x ∷ xs) (suc i) a e = omega (arith, one-le-sum_by xs i a e, sum_by-cons f x xs)

  -- two are at most the sum
  pub two-le-sum_by : (l : List A) (i j : ℕ) (a b : A) → i ≢ j → get_elem? l i ≡ some a → get_elem? l j ≡ some b → f a + f b ≤ sum_by f l
  two-le-sum_by [] i j a b ne p q = absurd (some-ne-none a (sym p))
  two-le-sum_by (x ∷ xs) zero zero a b ne p q = absurd (ne refl)
  two-le-sum_by (x ∷ xs) zero (suc j) a b ne p q = omega (arith, ap f (some-injective x a p), one-le-sum_by xs j b q, sum_by-cons f x xs)
  two-le-sum_by (x ∷ xs) (suc i) zero a b ne p q = omega (arith, ap f (some-injective x b q), one-le-sum_by xs i a p, sum_by-cons f x xs)
  two-le-sum_by (x ∷ xs) (suc i) (suc j) a b ne p q = omega (arith, two-le-sum_by xs i j a b (λ e. ne (ap suc e)) p q, sum_by-cons f x xs)

  -- each with at most 2^40 for each of its parts
  pub sum_by-parts : (g : A → ℕ) (l : List A) → ((i : ℕ) (a : A) → get_elem? l i ≡ some a → g a ≤ 2 ^ 40 * f a) → sum_by g l ≤ 2 ^ 40 * sum_by f l
  sum_by-parts g [] each = omega arith
  sum_by-parts g (x ∷ xs) each = omega (arith, each zero x refl, sum_by-parts g xs (λ i a e. each (suc i) a e), sum_by-cons f x xs, sum_by-cons g x xs)

  -- all but one have at most 2^40 for each part that the others have
  pub sum_by-rest : (g : A → ℕ) (l : List A) (i : ℕ) (a : A) → ((j : ℕ) (b : A) → get_elem? l j ≡ some b → g b ≤ 2 ^ 40 * f b) → get_elem? l i ≡ some a → sum_by g l + 2 ^ 40 * f a ≤ g a + 2 ^ 40 * sum_by f l
  sum_by-rest g [] i a each e = absurd (some-ne-none a (sym e))
  sum_by-rest g (x ∷ xs) zero a each e =
      omega (arith, ap f (some-injective x a e), ap g (some-injective x a e), sum_by-parts g xs (λ i b s. each (suc i) b s), sum_by-cons f x xs, sum_by-cons g x xs)
  sum_by-rest g (x ∷ xs) (suc i) a each e =
      omega (arith, each zero x refl, sum_by-rest g xs i a (λ j b s. each (suc j) b s) e, sum_by-cons f x xs, sum_by-cons g x xs)
