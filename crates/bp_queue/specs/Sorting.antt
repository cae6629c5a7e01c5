-- Lists in an order in which some may tie.
use Rattle.std.specs.Prelude.{Bool, if◌then◌else◌, List, [], ◌∷◌, fold, Option, Some, None}

-- the list with one more, before the first that it has to precede: where `may a b` says that b needn't precede a
abbrev pub put_in : {X : Type 0} → (X → X → Bool) → List X → X → List X
put_in may [] x = x ∷ []
put_in may (y ∷ ys) x = if may y x then y ∷ put_in may ys x else x ∷ y ∷ ys

-- these in order: one after another is put in, so those that tie stand as they stood
abbrev pub sorted_by : {X : Type 0} → (X → X → Bool) → List X → List X
sorted_by may xs = fold (put_in may) [] xs

-- the first of a list
abbrev pub first : {X : Type 0} → List X → Option X
first [] = None
first (x ∷ xs) = Some x
