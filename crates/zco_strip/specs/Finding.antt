-- Where a byte of a chain of extents lies.
use Rattle.std.specs.Prelude.{◌≡◌, ◌+◌, ◌<◌, ℕ, List, ◌∷◌, ◌++◌}
use Rattle.sdr_base.specs.Blocks.{Blocks}
use Rattle.sdr_base.specs.Linked.{first_of, last_of}
use Rattle.sdr_base.specs.ZcoObjects.{ExtentRow, extent_addr}
use Rattle.zco_obj.specs.Kept.{extents_length}
use Rattle.zco_obj.specs.Walks.{ExtentsAt}
use Rattle.zco_strip.specs.declared.finding.Place.{Place}

-- the extents of a chain whose bytes lie before a place, and those that are left; the last one of the former, and the first one of
-- the latter with how many bytes of it lie before
pub record IsPlace (rows : List ExtentRow) (place : ℕ) (found : Place) : Type 0 where
  pub passed : List ExtentRow
  pub left : List ExtentRow
  pub whole : rows ≡ passed ++ left
  pub at_last : found.last ≡ last_of extent_addr 0 passed
  pub at_extent : found.extent ≡ first_of extent_addr 0 left
  pub before : extents_length passed + found.inside ≡ place
  pub within : (e : ExtentRow) (es : List ExtentRow) → left ≡ e ∷ es → found.inside < e.length

-- so it is of whichever chain stands there
pub record FindsPlace (blocks : Blocks) (first place : ℕ) (found : Place) : Type 0 where
  pub finds : (rows : List ExtentRow) → ExtentsAt blocks first rows → IsPlace rows place found
