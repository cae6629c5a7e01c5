-- What the calls give that read an object's bytes.
use Rattle.std.specs.Prelude.{◌≡◌, ◌≤◌, ◌+◌, ◌-◌, ◌==◌, ℕ, List, length, take, min, max, if◌then◌else◌, Option}
use Rattle.sdr_base.specs.Blocks.{Blocks, IsKind}
use Rattle.sdr_base.specs.Media.{Told}
use Rattle.sdr_base.specs.ZcoObjects.{ObjectRow}
use Rattle.sdr_base.specs.declared.kind.Kind.TheVariants as kinds
use Rattle.sdr_gather.specs.Gathering.{AreGathered}
use Rattle.sdr_model.specs.Limits.{longest_read}
use Rattle.sdr_model.specs.Pieces.{cut_pieces}
use Rattle.sdr_model.specs.declared.piece.Piece.{Piece}
use Rattle.zco_wire.specs.Naming.{KeepsWire, wire_of}
use Rattle.zco_wire.specs.declared.reader.Reader.{Reader}

-- where the part of an object ends
abbrev pub end_of : ObjectRow → ℕ
end_of row = row.part_offset + row.part_length

-- of the bytes on the wire, so many from a place on
abbrev pub asked_wire : ℕ → ℕ → ObjectRow → List Piece → List Piece
asked_wire place count row named = cut_pieces place count (wire_of row named)

-- of the extents' bytes before the part, so many from a place on
abbrev pub asked_headers : ℕ → ℕ → ObjectRow → List Piece → List Piece
asked_headers place count row named = cut_pieces place (min count (row.part_offset - place)) named

-- of the part's bytes, so many from a place among all extents' bytes on
abbrev pub asked_source : ℕ → ℕ → ObjectRow → List Piece → List Piece
asked_source place count row named =
    let from = max place row.part_offset in cut_pieces from (min count (end_of row - from)) named

-- of the extents' bytes behind the part, so many from a place among all on
abbrev pub asked_trailers : ℕ → ℕ → ObjectRow → List Piece → List Piece
asked_trailers place count row named = cut_pieces (max place (end_of row)) count named

-- the reader behind so many bytes from a place on; where none was given, it stays
abbrev pub moved_by : ℕ → ℕ → Reader → Reader
moved_by from given reader = if given == 0 then reader else record reader { place = from + given }

-- The object is there, and at most a page was asked. Whichever object is kept, the first bytes of the buffer are what was asked of it,
-- and the reader stands behind them.
pub record GivesObject (told : Option Told) (blocks : Blocks) (object : ℕ) (asked : ObjectRow → List Piece → List Piece) (from : ObjectRow → ℕ)
    (into : List ℕ) (reader reader' : Reader) (given : ℕ) : Type 0 where
  pub kind : IsKind (blocks object) kinds.Object
  pub page : length into ≤ longest_read
  pub few : given ≤ length into
  pub gives : (row : ObjectRow) (named : List Piece) → KeepsWire blocks object row named → AreGathered told (asked row named) (take given into)
  pub moved : (row : ObjectRow) (named : List Piece) → KeepsWire blocks object row named → reader' ≡ moved_by (from row) given reader

-- whichever object is kept, the first bytes of the buffer are what was asked of it
pub record FillsWith (told : Option Told) (blocks : Blocks) (object : ℕ) (asked : ObjectRow → List Piece → List Piece) (into : List ℕ)
    (given : ℕ) : Type 0 where
  pub few : given ≤ length into
  pub gives : (row : ObjectRow) (named : List Piece) → KeepsWire blocks object row named → AreGathered told (asked row named) (take given into)
