-- A seat that holds no number, and what all seats know together.
use Rattle.std.proofs.Common.{◌≡◌, ℕ, ◌<◌, Bool, true, false, List, [], ◌∷◌, length, refl, sym, ◌∙◌, subst, arith}
use Rattle.std.specs.Prelude.{Option, Some, All, map}
use Rattle.std.proofs.lemmas.List.{length-map}
use Rattle.std.proofs.Math.ListN.{get_or-map}
use Rattle.sdr_turn.specs.declared.view.View.{View}
use Rattle.sdr_turn.specs.Seats.{IsSeat, carried}
use Rattle.sdr_turn.specs.Views.{seat_view}

-- a seat with no number has no value
pub idle_free : {V E : Type 0} (drawn place : ℕ) (v : View E) (slots : List (ℕ × Option V)) → IsSeat drawn place v slots → v.knows.number ≡ 0 → v.knows.took ≡ false
idle_free drawn place v slots is idle = by_case v.knows.took refl
  where
    by_case : (b : Bool) → v.knows.took ≡ b → v.knows.took ≡ false
    by_case false e = e
    by_case true e = let some = is.holds e in absurd (omega (arith, some, idle))

-- a seat is what it knows, and where it holds no number it carries nothing
pub idle_seat : {V E : Type 0} (drawn place : ℕ) (v : View E) (slots : List (ℕ × Option V)) → IsSeat drawn place v slots → v.knows.number ≡ 0
    → ◌≡◌ {A = View E × List (ℕ × Option V)} (v, slots) (seat_view v.knows, [])
idle_seat drawn place v slots is idle =
    let empty : slots ≡ [] = is.carries ∙ (λ i. carried (idle_free drawn place v slots is idle i)) in
    let count : v.drawn ≡ length v.knows.numbers = is.drawn_is ∙ sym is.numbers in
    λ i. (record { parts = is.one i; drawn = count i; places = is.placed i; knows = v.knows; told = is.alone i }, empty i)

pub length-zero : {A : Type 0} (xs : List A) → length xs ≡ 0 → xs ≡ []
length-zero [] e = refl
length-zero (x ∷ xs) e = absurd (omega arith)

pub Some-injective : {A : Type 0} {x y : A} → Some x ≡ Some y → x ≡ y
Some-injective e = cc e

-- what holds of all that f makes of them holds of each
pub All-from_map : {A B : Type 0} (P : B → Type 0) (f : A → B) (xs : List A) → All P (map f xs) → All (λ x. P (f x)) xs
All-from_map P f xs all k d inside = subst P (get_or-map f xs k d) (all k (f d) (subst (λ n. k < n) (sym (length-map xs f)) inside))
