-- A text that stands in a heap, the pieces that it was rebuilt from, and the rows of the objects beside it.
use Rattle.std.specs.Prelude.{◌≡◌, ℕ, List, [], map, All}
use Rattle.std.specs.List.{range_with_len}
use Rattle.sdr_base.specs.Objects.{Heap}
use Rattle.sdr_base.specs.ZcoObjects.{ObjectRow}
use Rattle.zco_join.specs.Joining.{AreClones}
use Rattle.zco_join.specs.Stocks.{Standing}
use Rattle.zco_pieces.specs.Bytes.{part_bytes}
use Rattle.zco_pieces.specs.Places.{Range, Rebuilt}
use Rattle.zco_pieces.specs.Runs.{Added, Rebuilds}
use Rattle.zco_pieces.specs.declared.piece.Piece.{Piece}
use Rattle.law_pieces.specs.Texts.{Beside, Holds, stock_of}

-- a piece that was added to a text, and the row that its object had then
pub record PieceRow : Type 0 where
  pub piece : Piece
  pub row : ObjectRow

-- the same, where the sources hold these bytes
abbrev pub by_held : (ℕ → ℕ → ℕ) → PieceRow → Added
by_held held p = record { piece = p.piece; row = p.row; held = held }

-- the places of the text that it covers
abbrev pub covers : PieceRow → Range
covers p = record { offset = p.piece.offset; length = p.row.part_length }

-- by their addresses these objects have these rows
abbrev pub AreAt : (ℕ → ObjectRow) → List Standing → Type 0
AreAt row_at = All (λ z. row_at z.addr ≡ z.row)

-- The text was rebuilt from these pieces, in this order, and these are its clones: whatever the sources hold.
pub record IsRebuiltFrom (total : ℕ) (added : List PieceRow) (r : Rebuilt) (clones : List Standing) : Type 0 where
  pub rebuilds : (clone_at : ℕ → ObjectRow) (held : ℕ → ℕ → ℕ) → AreAt clone_at clones →
      Rebuilds clone_at held (record { total = total; parts = [] }) (map (by_held held) added) r

-- The heap holds the clones of a text of so many bytes that was rebuilt from these pieces, and beside it these objects.
pub record HoldsRebuilt (heap : Heap) (total : ℕ) (added : List PieceRow) (r : Rebuilt) (others : List Standing) (most room : ℕ) : Type 0 where
  pub beside : Beside
  pub holds : Holds heap most room (stock_of beside)
  pub clones : AreClones r.parts beside.clones
  pub stand : beside.others ≡ others
  pub rebuilt : IsRebuiltFrom total added r beside.clones

-- an object has just so many bytes of one source, from a place on
pub record HasPayload (offset count : ℕ) (row : ObjectRow) : Type 0 where
  pub long : row.part_length ≡ count
  pub source : ℕ
  pub bytes : (held : ℕ → ℕ → ℕ) → part_bytes held row ≡ map (held source) (range_with_len offset count)
