-- What the rule keeps of a seat of the table, and how it is cut and joined.
use Rattle.std.specs.Prelude.{ℕ, ◌+◌, ◌-◌, Bool, List, [], ◌∷◌, ◌++◌, length, map}
use Rattle.std.specs.List.{list_any, range_with_len}
use Rattle.sdr_turn.specs.declared.known.Known.{Known}
use Rattle.sdr_turn.specs.declared.view.View.{View}
use Rattle.sdr_turn.specs.Entries.{has}
use Rattle.sdr_turn.specs.Knowing.{nothing}

-- the place of what has no part of a lock, whose seats have places below this
abbrev pub no_place : ℕ
no_place = 64

-- so many seats in one that have done nothing yet, which have places from this one on
abbrev pub new_view : {E : Type 0} → ℕ → ℕ → View E
new_view place parts = record { parts = parts; drawn = 0; places = range_with_len place parts; knows = nothing place; told = [] }

-- one seat that knows this
abbrev pub seat_view : {E : Type 0} → Known E → View E
seat_view k = record { parts = 1; drawn = length k.numbers; places = k.place ∷ []; knows = k; told = [] }

-- the seat, which drew one number more and knows this now
abbrev pub with_draw : {E : Type 0} → View E → Known E → View E
with_draw v k = record v { drawn = v.drawn + 1; knows = k }

-- the seat, which knows this now
abbrev pub with_known : {E : Type 0} → View E → Known E → View E
with_known v k = record v { knows = k }

-- a seat of several parts that has done nothing yet, without the first of them
abbrev pub without_first : {E : Type 0} → View E → View E
without_first v = new_view (v.knows.place + 1) (v.parts - 1)

-- the seat with another joined into it
abbrev pub with_view : {E : Type 0} → View E → View E → View E
with_view v w = record v { parts = v.parts + w.parts; drawn = v.drawn + w.drawn; places = v.places ++ w.places; told = w.knows ∷ v.told }

-- what a seat was told, and then what it knows itself
abbrev pub told_of : {E : Type 0} → View E → List (Known E)
told_of v = v.told ++ v.knows ∷ []

-- the numbers that each of these drew
abbrev pub numbers_of : {E : Type 0} → View E → List (List ℕ)
numbers_of v = map (λ k. k.numbers) v.told ++ v.knows.numbers ∷ []

-- whether one of these drew the number
abbrev pub drew : {E : Type 0} → View E → ℕ → Bool
drew v n = list_any (λ numbers. has numbers n) (numbers_of v)
