-- What is there at most once, by counts.
use Rattle.std.proofs.Common.{◌≡◌, ◌≢◌, ℕ, ◌+◌, ◌≤◌, zero, suc, List, [], ◌∷◌, ◌==◌, Bool, true, false, not, cond, nat_eq, refl, sym, ap, ◌∙◌, arith}
use Rattle.std.specs.Prelude.{Contains, filter}
use Rattle.std.specs.Cmp.{IsEquivalence, nat_eq_equiv}
use Rattle.std.specs.List.{AllByRecursion, IsDistinct, count_by}
use Rattle.std.proofs.lemmas.Bool.{eqb-true}
use Rattle.std.proofs.lemmas.List.Sums.{sum_by-cons}

-- what one element adds to a count
abbrev pub weight : Bool → ℕ
weight b = cond b 1 0

pub weight_of : {b c : Bool} → b ≡ c → weight b ≡ weight c
weight_of e = ap weight e

-- what follows at both answers of a test
pub on_test : {R : Type 0} (b : Bool) → (b ≡ true → R) → (b ≡ false → R) → R
on_test true f g = f refl
on_test false f g = g refl

-- one more element counts, where it passes
pub count_by-cons : {X : Type 0} (p : X → Bool) (x : X) (xs : List X)
    → count_by p (x ∷ xs) ≡ cond (p x) 1 0 + count_by p xs
count_by-cons p x xs = sum_by-cons (λ y. cond (p y) 1 0) x xs

-- none counts, where all differ from a key
none_equal : {K : Type 0} (eq : K → K → Bool) (k : K) (xs : List K) → AllByRecursion (λ y. eq k y ≡ false) xs
    → count_by (eq k) xs ≡ 0
none_equal eq k [] all = refl
none_equal eq k (x ∷ xs) all = omega (arith, count_by-cons (eq k) x xs, weight_of all.0, none_equal eq k xs all.1)

-- and all differ, where none counts
all_differ : {K : Type 0} (eq : K → K → Bool) (k : K) (xs : List K) → count_by (eq k) xs ≡ 0
    → AllByRecursion (λ y. eq k y ≡ false) xs
all_differ eq k [] none = tt
all_differ eq k (x ∷ xs) none = (
  on_test (eq k x) (λ e. absurd (omega (arith, none, count_by-cons (eq k) x xs, weight_of e))) (λ e. e),
  all_differ eq k xs (omega (arith, none, count_by-cons (eq k) x xs)),
)

-- keys that are equal are there as often
pub same_counts : {K : Type 0} {eq : K → K → Bool} → IsEquivalence eq → (k x : K) → eq k x ≡ true → (xs : List K)
    → count_by (eq k) xs ≡ count_by (eq x) xs
same_counts laws k x same [] = refl
same_counts {eq = eq} laws k x same (y ∷ ys) =
    omega (
      arith,
      count_by-cons (eq k) y ys,
      count_by-cons (eq x) y ys,
      weight_of (laws.congr k x y same),
      same_counts laws k x same ys,
    )

-- of keys that differ, none is there twice
pub once : {K : Type 0} {eq : K → K → Bool} → IsEquivalence eq → (xs : List K) → IsDistinct eq xs → (k : K)
    → count_by (eq k) xs ≤ 1
unfolding IsDistinct
once laws [] distinct k = omega arith
once {eq = eq} laws (x ∷ xs) distinct k =
    on_test (eq k x)
    (λ e. omega (
      arith,
      count_by-cons (eq k) x xs,
      weight_of e,
      same_counts laws k x e xs,
      none_equal eq x xs distinct.0,
    ))
    (λ e. omega (arith, count_by-cons (eq k) x xs, weight_of e, once laws xs distinct.1 k))

-- keys of which none is there twice differ
pub from_once : {K : Type 0} {eq : K → K → Bool} → IsEquivalence eq → (xs : List K)
    → ((k : K) → count_by (eq k) xs ≤ 1) → IsDistinct eq xs
unfolding IsDistinct
from_once laws [] few = tt
from_once {eq = eq} laws (x ∷ xs) few = (
  all_differ eq x xs (omega (arith, few x, count_by-cons (eq x) x xs, weight_of (laws.refl x))),
  from_once laws xs (λ k. omega (arith, few k, count_by-cons (eq k) x xs)),
)

-- what is not contained is not counted
pub absent : (k : ℕ) (xs : List ℕ) → ¬ Contains xs k → count_by (nat_eq k) xs ≡ 0
absent k [] none = refl
absent k (x ∷ xs) none =
    let rest = absent k xs (λ has. none (suc has.0, omega (arith, has.1), has.2)) in
    on_test (nat_eq k x)
    (λ e. absurd (none (zero, omega arith, sym (eqb-true k x e))))
    (λ e. omega (arith, count_by-cons (nat_eq k) x xs, weight_of e, rest))

-- and what is not counted is not contained
pub not_contained : (k : ℕ) (xs : List ℕ) → count_by (nat_eq k) xs ≡ 0 → ¬ Contains xs k
not_contained k [] none has = omega (arith, has.1)
not_contained k (x ∷ xs) none (zero, within, is) =
    omega (arith, none, count_by-cons (nat_eq k) x xs, weight_of (ap (nat_eq k) is ∙ nat_eq_equiv.refl k))
not_contained k (x ∷ xs) none (suc i, within, is) =
    not_contained k xs (omega (arith, none, count_by-cons (nat_eq k) x xs)) (i, omega (arith, within), is)

-- all that is not this number
abbrev pub others : ℕ → List ℕ → List ℕ
others a xs = filter (λ x. not (x == a)) xs

-- what is filtered out is counted no more
pub none_counted : (a : ℕ) (xs : List ℕ) → count_by (nat_eq a) (others a xs) ≡ 0
none_counted a [] = refl
none_counted a (x ∷ xs) =
    let rest = none_counted a xs in
    on_test (x == a)
    (λ e. ap (λ b. count_by (nat_eq a) (cond (not b) (x ∷ others a xs) (others a xs))) e ∙ rest)
    (λ e. ap (λ b. count_by (nat_eq a) (cond (not b) (x ∷ others a xs) (others a xs))) e
    ∙ omega (arith, rest, count_by-cons (nat_eq a) x (others a xs), weight_of (nat_eq_equiv.symm a x ∙ e)))

-- and all else as before
pub others_counted : (k a : ℕ) (xs : List ℕ) → k ≢ a → count_by (nat_eq k) (others a xs) ≡ count_by (nat_eq k) xs
others_counted k a [] apart = refl
others_counted k a (x ∷ xs) apart =
    let rest = others_counted k a xs apart in
    on_test (x == a)
    (λ e. ap (λ b. count_by (nat_eq k) (cond (not b) (x ∷ others a xs) (others a xs))) e
    ∙ omega (arith, count_by-cons (nat_eq k) x xs, rest, weight_of (differs e)))
    (λ e. ap (λ b. count_by (nat_eq k) (cond (not b) (x ∷ others a xs) (others a xs))) e
    ∙ omega (arith, count_by-cons (nat_eq k) x (others a xs), count_by-cons (nat_eq k) x xs, rest))
  where
    differs : (x == a) ≡ true → nat_eq k x ≡ false
    differs e = on_test (nat_eq k x) (λ f. absurd (apart (eqb-true k x f ∙ eqb-true x a e))) (λ f. f)
