-- The seats of a lock's table when it begins and when it ends.
use Rattle.std.specs.Prelude.{◌≡◌, ℕ, false, List, [], Option, All, AllPairs, map}
use Rattle.atomic_table.specs.Seated.{TableId}
use Rattle.atomic_table.specs.declared.shared.Seat.{Seat}
use Rattle.sdr_turn.specs.declared.view.View.{View}
use Rattle.sdr_turn.specs.Entries.{Apart, Rise, AtMost}
use Rattle.sdr_turn.specs.Knowing.{Agrees}
use Rattle.sdr_turn.specs.Views.{new_view, told_of}

-- a seat of this lock's table, with so many parts from this place on, that has done nothing yet
abbrev pub IsNewTableSeat : {V E : Type 0} → TableId → ℕ → ℕ → Seat (Option V) (View E) → Type 0
IsNewTableSeat id place parts s = (s.table_id ≡ id) × (s.me ≡ (new_view place parts, []))

-- a seat of this lock's table, with so many parts, that holds neither a number nor the value
pub record IsIdleTableSeat {V E : Type 0} (id : TableId) (parts : ℕ) (s : Seat (Option V) (View E)) : Type 0 where
  pub lock : s.table_id ≡ id
  pub parts_are : s.me.0.parts ≡ parts
  pub idle : s.me.0.knows.number ≡ 0
  pub free : s.me.0.knows.took ≡ false
  pub empty : s.me.1 ≡ []

-- the value at the end of a lock, where one seat of its table has all parts and was told what each seat knows
pub record IsEnd {V E : Type 0} (entries : V → List E) (number maker : E → ℕ) (turns : V → ℕ) (rests : V → Type 0) (v : View E) (value : V) : Type 0 where
  pub rested : rests value
  pub rise : Rise number (entries value)
  pub past : AtMost number (turns value) (entries value)
  pub turns_are : turns value ≡ v.drawn
  pub agree : All (Agrees number maker (entries value) (turns value) (turns value)) (told_of v)
  pub apart : AllPairs Apart (map (λ k. k.numbers) (told_of v))
