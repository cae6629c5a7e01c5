-- The rule of a turn lock.
use Rattle.std.specs.Prelude.{◌≡◌, ℕ, ◌+◌, ◌*◌, ◌^◌, ◌<◌, ◌≤◌, ◌⊎◌, true, List, [], ◌∷◌, Option, Some, All, AllPairs, sum_by}
use mathlib.Core.Option.{some, Option as Home}
use lib.ListN.{get_elem?}
use Rattle.atomic_table.specs.Table.{State}
use Rattle.sdr_turn.specs.declared.view.View.{View}
use Rattle.sdr_turn.specs.Entries.{has, times, made_at, Apart, Rise, AtMost}
use Rattle.sdr_turn.specs.Knowing.{Agrees}
use Rattle.sdr_turn.specs.Views.{no_place, numbers_of, drew}

-- what is so of a seat, where these are the entries at the last give, and so many numbers are drawn and done
pub record Fits {E : Type 0} (number maker : E → ℕ) (all : List E) (drawn done : ℕ) (v : View E) : Type 0 where
  pub few : v.drawn ≤ 2 ^ 40 * v.parts
  pub knows : Agrees number maker all drawn done v.knows
  pub told : All (Agrees number maker all drawn done) v.told
  pub placed : (0 < times v.knows.place v.places) ⊎ (v.knows.place ≡ no_place)
  pub told_placed : All (λ k. 0 < times k.place v.places) v.told
  pub unmade : v.drawn ≡ 0 → (place : ℕ) → 0 < times place v.places → made_at maker place all ≡ []
  pub apart : AllPairs Apart (numbers_of v)
  pub held : 0 < v.knows.number → (done < v.knows.number) × (has v.knows.numbers v.knows.number ≡ true) × (0 < v.parts)
  pub took : v.knows.took ≡ true → (v.knows.number ≡ done + 1) × (v.knows.seen ≡ all) × (0 < v.parts)

-- the value lies in its slot, rests, and stands for these entries and so many turns
pub record IsHome {V E : Type 0} (entries : V → List E) (turns : V → ℕ) (rests : V → Type 0) (all : List E) (done : ℕ) (homes : List (Home (Option V))) : Type 0 where
  pub value : V
  pub here : get_elem? homes 0 ≡ some (some (Some value))
  pub entries_are : entries value ≡ all
  pub turns_are : turns value ≡ done
  pub rested : rests value

-- a seat has the value
pub record IsOut {E : Type 0} (views : List (View E)) : Type 0 where
  pub seat : ℕ
  pub view : View E
  pub sits : get_elem? views seat ≡ some view
  pub took : view.knows.took ≡ true

-- a seat holds the number
pub record IsHeld {E : Type 0} (views : List (View E)) (n : ℕ) : Type 0 where
  pub seat : ℕ
  pub view : View E
  pub sits : get_elem? views seat ≡ some view
  pub holds : view.knows.number ≡ n

-- the lock of so many seats
pub record IsServing {V E : Type 0} (entries : V → List E) (number maker : E → ℕ) (turns : V → ℕ) (rests : V → Type 0) (seats : ℕ) (s : State (Option V) (View E)) : Type 0 where
  pub drawn : ℕ
  pub done : ℕ
  pub all : List E  -- the entries at the last give
  pub words : s.words ≡ drawn ∷ done ∷ []
  pub most : seats ≤ 64
  pub parts : sum_by (λ v. v.parts) s.views ≡ seats
  pub draws : sum_by (λ v. v.drawn) s.views ≡ drawn
  pub below : done ≤ drawn
  pub rise : Rise number all
  pub past : AtMost number done all
  pub fits : (i : ℕ) (v : View E) → get_elem? s.views i ≡ some v → Fits number maker all drawn done v
  pub apart : (i j n : ℕ) (v w : View E) → get_elem? s.views i ≡ some v → get_elem? s.views j ≡ some w → drew v n ≡ true → drew w n ≡ true → i ≡ j
  pub places : (place : ℕ) → sum_by (λ v. times place v.places) s.views ≤ 1  -- each is of one seat
  pub nowhere : made_at maker no_place all ≡ []
  pub waiting : (n : ℕ) → done < n → n ≤ drawn → IsHeld s.views n
  pub slot : IsHome entries turns rests all done s.homes ⊎ IsOut s.views
