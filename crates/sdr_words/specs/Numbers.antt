-- How numbers stand.
use Rattle.std.specs.Prelude.{◌≡◌, ◌≤◌, ◌<◌, ℕ, List, [], length, slice_index}

-- The first five stand in place, with zeros behind where there are fewer, and others stand behind five alone.
pub record StandInPlace (first : List ℕ) (count : ℕ) (rest : List ℕ) : Type 0 where
  pub five : length first ≡ 5
  pub few : count ≤ 5
  pub zeros : (place : ℕ) → count ≤ place → slice_index first place ≡ 0
  pub behind : count < 5 → rest ≡ []
