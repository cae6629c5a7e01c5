-- What a new object of some pieces charges.
use Rattle.std.specs.Prelude.{◌≡◌, ◌+◌, ◌*◌, ℕ, List, length}
use Rattle.sdr_base.specs.Blocks.{Blocks}
use Rattle.sdr_base.specs.ZcoObjects.{ExtentRow}
use Rattle.sdr_base.specs.declared.account.Amounts.{Amounts}
use Rattle.sdr_model.specs.Charges.{extent_bytes, object_bytes}
use Rattle.zco_obj.specs.Amounts.{heap_amounts}
use Rattle.zco_obj.specs.Walks.{ExtentsAt}
use Rattle.zco_obj.specs.declared.extent.ExtentPiece.{ExtentPiece}
use Rattle.zco_part.specs.Pieces.{pieces}

-- what an object of extents of these pieces alone charges, of whose sources the account is charged already
abbrev pub clone_amounts : List ExtentPiece → Amounts
clone_amounts ps = heap_amounts (object_bytes + extent_bytes * length ps)

-- so many pieces has a chain of its bytes from one place on and before another, whichever chain is there
pub record CountsPieces (blocks : Blocks) (first from to count : ℕ) : Type 0 where
  pub counts : (extents : List ExtentRow) → ExtentsAt blocks first extents → count ≡ length (pieces from to extents)
