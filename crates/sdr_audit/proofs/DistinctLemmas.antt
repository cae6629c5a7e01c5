-- Parts of lists in which no two are equal.
use Rattle.std.proofs.Common.{◌≡◌, Bool, true, false, cond, List, [], ◌∷◌, ◌++◌, map, filter}
use Rattle.std.specs.List.{AllByRecursion, IsDistinct}

-- what holds of each of two lists holds of each of the first
each_left : {X : Type 0} (P : X → Type 0) (xs ys : List X) → AllByRecursion P (xs ++ ys) → AllByRecursion P xs
each_left P [] ys all = tt
each_left P (x ∷ xs) ys all = (all.0, each_left P xs ys all.1)

-- and of each that passes a test
each_kept : {X Y : Type 0} (P : Y → Type 0) (f : X → Y) (p : X → Bool) (xs : List X) → AllByRecursion P (map f xs) →
    AllByRecursion P (map f (filter p xs))
each_kept P f p [] all = tt
each_kept P f p (x ∷ xs) all =
    elim (p x) as (λ t. AllByRecursion P (map f (cond t (x ∷ filter p xs) (filter p xs)))) [
      | true ↦ (all.0, each_kept P f p xs all.1)
      | false ↦ each_kept P f p xs all.1
    ]

-- the first of two lists
pub distinct_left : {X : Type 0} (eq : X → X → Bool) (xs ys : List X) → IsDistinct eq (xs ++ ys) → IsDistinct eq xs
unfolding IsDistinct
distinct_left eq [] ys distinct = tt
distinct_left eq (x ∷ xs) ys distinct = (each_left (λ y. eq x y ≡ false) xs ys distinct.0, distinct_left eq xs ys distinct.1)

-- what is made of those that pass a test
pub distinct_kept : {X Y : Type 0} (eq : Y → Y → Bool) (f : X → Y) (p : X → Bool) (xs : List X) → IsDistinct eq (map f xs) →
    IsDistinct eq (map f (filter p xs))
unfolding IsDistinct
distinct_kept eq f p [] distinct = tt
distinct_kept eq f p (x ∷ xs) distinct =
    elim (p x) as (λ t. IsDistinct eq (map f (cond t (x ∷ filter p xs) (filter p xs)))) [
      | true ↦ (each_kept (λ y. eq (f x) y ≡ false) f p xs distinct.0, distinct_kept eq f p xs distinct.1)
      | false ↦ distinct_kept eq f p xs distinct.1
    ]
