-- The place of a name among the rows of a table.
use Rattle.std.proofs.Common.{suc, ◌≡◌, ◌+◌, List, [], ◌∷◌, Bool, not, cond, map, length, ap, sym, refl, Some, None, nat_lt}
use Rattle.std.specs.List.{position, position_or_len}

position_or_len-map : {A B : Type 0} (p : B → Bool) (f : A → B) (xs : List A) → position_or_len p (map f xs) ≡ position_or_len (λ x. p (f x)) xs
position_or_len-map p f [] = refl
position_or_len-map p f (x ∷ xs) = ap (λ n. cond (not (p (f x))) (1 + n) 0) (position_or_len-map p f xs)

length-mapped : {A B : Type 0} (f : A → B) (xs : List A) → length (map f xs) ≡ length xs
length-mapped f [] = refl
length-mapped f (x ∷ xs) = ap (λ n. suc n) (length-mapped f xs)

-- a place among what is made of items is the place among the items
pub position-map : {A B : Type 0} (p : B → Bool) (f : A → B) (xs : List A) → position (λ x. p (f x)) xs ≡ position p (map f xs)
position-map p f xs = sym (λ i. cond (nat_lt (position_or_len-map p f xs i) (length-mapped f xs i)) (Some (position_or_len-map p f xs i)) None)
