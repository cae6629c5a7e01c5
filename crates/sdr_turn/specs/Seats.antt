-- What contracts see of a lock and of a seat.
use Rattle.std.specs.Prelude.{◌≡◌, ℕ, ◌+◌, ◌^◌, ◌<◌, ◌≤◌, Bool, true, false, List, [], ◌∷◌, length, Option, None}
use Rattle.atomic_table.specs.Seated.{TableId}
use Rattle.sdr_turn.specs.declared.known.Known.{Known}
use Rattle.sdr_turn.specs.declared.view.View.{View}
use Rattle.sdr_turn.specs.Knowing.{nothing}

-- a lock: which one, and of how many seats
pub record Lock : Type 0 where
  pub id : TableId
  pub seats : ℕ

-- a seat: of which lock, and what it knows
pub record Seated (E : Type 0) : Type 0 where
  pub lock : TableId
  pub knows : Known E

-- a seat of this lock that has done nothing yet
abbrev pub IsNewSeat : {E : Type 0} → TableId → Seated E → Type 0
IsNewSeat id s = (s.lock ≡ id) × (s.knows ≡ nothing s.knows.place)

-- a seat of this lock that holds no number
abbrev pub IsIdleSeat : {E : Type 0} → TableId → Seated E → Type 0
IsIdleSeat id s = (s.lock ≡ id) × (s.knows.number ≡ 0)

-- the table of a lock: two words, one slot, and some seats
abbrev pub IsLock : TableId → ℕ → Type 0
IsLock id seats = (id.words ≡ 2) × (id.slots ≡ 1) × (0 < seats)

-- the slots that a seat carries: the value's, where it took it
abbrev pub carried : {V : Type 0} → Bool → List (ℕ × Option V)
carried true = (0, None) ∷ []
carried false = []

-- one seat, which drew so many numbers and has this place, with the slots that it carries
pub record IsSeat {V E : Type 0} (drawn place : ℕ) (v : View E) (slots : List (ℕ × Option V)) : Type 0 where
  pub one : v.parts ≡ 1
  pub alone : v.told ≡ []
  pub place_is : v.knows.place ≡ place
  pub placed : v.places ≡ v.knows.place ∷ []
  pub few : place < 64
  pub most : drawn ≤ 2 ^ 40
  pub drawn_is : v.drawn ≡ drawn
  pub numbers : length v.knows.numbers ≡ drawn
  pub holds : v.knows.took ≡ true → 0 < v.knows.number
  pub served : v.knows.took ≡ true → v.knows.front + 1 ≡ v.knows.number
  pub carries : slots ≡ carried v.knows.took
