-- The first entry of a key in a bucket gets another value, or goes.
use Rattle.std.proofs.Common.{◌≡◌, ℕ, List, [], ◌∷◌, ◌++◌, cond, Some, None, ap}
use Rattle.std.specs.Prelude.{find, true, false}
use Rattle.sdr_base.specs.Hashes.{HashItem}
use Rattle.sdr_hash.specs.Buckets.{item_has_key, removed, revised}

-- the entries with another value in the first of a key
pub revised_at : (key : List ℕ) (value : ℕ) (xs : List HashItem) (x : HashItem) (ys : List HashItem) →
    find (item_has_key key) xs ≡ None → item_has_key key x ≡ true →
    revised key value (xs ++ (x ∷ ys)) ≡ xs ++ (record x { value = value } ∷ ys)
unfolding revised
revised_at key value [] x ys n is = ap (λ v. cond v (record x { value = value } ∷ ys) (x ∷ revised key value ys)) is
revised_at key value (z ∷ xs) x ys n is =
    elim (item_has_key key z) as (λ v. cond v (Some z) (find (item_has_key key) xs) ≡ None →
    cond v (record z { value = value } ∷ (xs ++ (x ∷ ys))) (z ∷ revised key value (xs ++ (x ∷ ys))) ≡ z ∷
    (xs ++ (record x { value = value } ∷ ys))) [
      | true ↦ λ k. let d : Some z ≡ None = k in cc
      | false ↦ λ k. ap (λ (l : List HashItem). z ∷ l) (revised_at key value xs x ys k is)
    ] n

-- the entries without the first of a key
pub removed_at : (key : List ℕ) (xs : List HashItem) (x : HashItem) (ys : List HashItem) → find (item_has_key key) xs ≡ None →
    item_has_key key x ≡ true →
    removed key (xs ++ (x ∷ ys)) ≡ xs ++ ys
unfolding removed
removed_at key [] x ys n is = ap (λ v. cond v ys (x ∷ removed key ys)) is
removed_at key (z ∷ xs) x ys n is =
    elim (item_has_key key z) as
    (λ v. cond v (Some z) (find (item_has_key key) xs) ≡ None → cond v (xs ++ (x ∷ ys))
    (z ∷ removed key (xs ++ (x ∷ ys))) ≡ z ∷ (xs ++ ys)) [
      | true ↦ λ k. let d : Some z ≡ None = k in cc
      | false ↦ λ k. ap (λ (l : List HashItem). z ∷ l) (removed_at key xs x ys k is)
    ] n
