-- What an extent says to one who walks its chain.
use Rattle.std.specs.Prelude.{◌≡◌, ℕ, Option}
use Rattle.sdr_base.specs.Blocks.{Block}
use Rattle.sdr_base.specs.ZcoObjects.{ExtentRow}
use Rattle.zco_obj.specs.Walks.{KeepsExtent}
use Rattle.zco_obj.specs.declared.extent.ExtentPiece.{ExtentPiece}
use Rattle.zco_obj.specs.declared.link.Link.{Link}

-- the part of a source that an extent names
abbrev pub piece_of : ExtentRow → ExtentPiece
piece_of e = record { of = e.source; offset = e.offset; bytes = e.length }

-- whichever extent stands there, this is what it names, and the next one
pub record SeesLink (found : Option Block) (link : Link) : Type 0 where
  pub piece : (next : ℕ) (e : ExtentRow) → KeepsExtent found next e → link.piece ≡ piece_of e
  pub next : (next : ℕ) (e : ExtentRow) → KeepsExtent found next e → link.next ≡ next
