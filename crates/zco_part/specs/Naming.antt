-- An extent that comes to an object of extents alone whose part is its whole, and names a piece of a source.
use Rattle.std.specs.Prelude.{◌≡◌, ◌≢◌, ◌==◌, ℕ, List, [], ◌∷◌, MatchBool}
use Rattle.sdr_base.specs.Blocks.{Blocks}
use Rattle.sdr_base.specs.Objects.{Heap, OnlyFault, OnlyShort}
use Rattle.sdr_base.specs.Words.{layout, with_word}
use Rattle.sdr_base.specs.ZcoObjects.{ObjectRow}
use Rattle.sdr_base.specs.declared.layout.extent.TheConstants.{NEXT}
use Rattle.sdr_base.specs.declared.layout.object.TheConstants.{FIRST_EXTENT, LAST_EXTENT, PART_LENGTH}
use Rattle.sdr_base.specs.declared.stop.Stop.{Stop}
use Rattle.sdr_base.specs.declared.stop.Stop.TheVariants.{Refused}
use Rattle.sdr_model.specs.Things.{extent_need}
use Rattle.zco_obj.specs.Appending.{NamesSource}
use Rattle.zco_obj.specs.Beside.{SomePair}
use Rattle.zco_obj.specs.Kept.{SomeObject}
use Rattle.zco_obj.specs.declared.extent.ExtentPiece.{ExtentPiece}
use Rattle.zco_part.specs.Pieces.{whole_row}

-- an object has nothing but extents, and its part is its whole
abbrev pub IsWholeRow : ObjectRow → Type 0
IsWholeRow row = row ≡ whole_row row.account row.extents

-- some object is kept there that is so
pub record SomeWhole (blocks : Blocks) (object : ℕ) : Type 0 where
  pub some : SomeObject blocks object
  pub whole : IsWholeRow some.row

-- some object is kept so, and beside it a source which one extent more of its account may name
pub record SomeWholePair (blocks : Blocks) (object addr : ℕ) : Type 0 where
  pub pair : SomePair blocks object addr
  pub whole : IsWholeRow pair.row

-- the object has an extent of this piece more, which is last, and its source counts it, unless the piece has no byte
abbrev pub NamesPiece : ℕ → ExtentPiece → Heap → Heap → Type 0
NamesPiece object piece old new = MatchBool (piece.bytes == 0) (new ≡ old) (NamesSource object piece old new)

-- why it hasn't: there is no block for the extent, or no log room; or a fault
abbrev pub PieceStops : ExtentPiece → Heap → Heap → Stop → Type 0
PieceStops piece old new (Refused refusal) = (piece.bytes ≢ 0) × OnlyShort extent_need old new (Refused refusal)
PieceStops piece old new stop = OnlyFault stop

-- the bytes of the block of an extent that names a piece, with none behind it
abbrev pub extent_bytes : ExtentPiece → List ℕ
extent_bytes piece = layout (piece.of ∷ piece.offset ∷ piece.bytes ∷ 0 ∷ []) []

-- the heap in which an object's last extent has this address, and its part is so long
abbrev pub with_end : Heap → ℕ → ℕ → ℕ → Heap
with_end heap object last part = with_word (with_word heap object PART_LENGTH part) object LAST_EXTENT last

-- an added extent follows the last one of an object, or is its first where that is 0
pub record FollowsLast (object last added : ℕ) (old new : Heap) : Type 0 where
  pub first : last ≡ 0 → new ≡ with_word old object FIRST_EXTENT added
  pub next : last ≢ 0 → new ≡ with_word old last NEXT added
