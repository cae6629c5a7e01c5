-- A chain of extents that is walked, cut to a part of its bytes.
use Rattle.std.specs.Prelude.{◌≡◌, ◌≤◌, ℕ, List, ◌++◌, length}
use Rattle.sdr_base.specs.Linked.{first_of}
use Rattle.sdr_base.specs.ZcoObjects.{ExtentRow, extent_addr}
use Rattle.zco_obj.specs.declared.extent.ExtentPiece.{ExtentPiece}
use Rattle.zco_part.specs.Pieces.{pieces}
use Rattle.zco_part.specs.declared.span.Span.{Span}

-- so many first ones of these extents were passed, of which these are the pieces; the cursor is at the first of those that are
-- left, and the span counts from there
pub record Walked (span : Span) (extents : List ExtentRow) (cursor i : ℕ) (now : Span) : Type 0 where
  pub passed : List ExtentRow
  pub left : List ExtentRow
  pub done : List ExtentPiece
  pub whole : extents ≡ passed ++ left
  pub counted : length passed ≡ i
  pub at_cursor : cursor ≡ first_of extent_addr 0 left
  pub parts : pieces span.from span.to extents ≡ done ++ pieces now.from now.to left
  pub few : length done ≤ i
