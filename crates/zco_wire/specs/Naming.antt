-- What the extents of an object name, as pieces of what is kept and of what lies with media.
use Rattle.std.specs.Prelude.{◌≡◌, ◌≤◌, ℕ, ◌+◌, List, [], ◌∷◌, ◌++◌, map, length, ⊤}
use Rattle.sdr_base.specs.Blocks.{Blocks, IsKind}
use Rattle.sdr_base.specs.Parts.{part}
use Rattle.sdr_base.specs.Sources.{SourceRow}
use Rattle.sdr_base.specs.ZcoObjects.{CapsuleRow, ExtentRow, ObjectRow}
use Rattle.sdr_base.specs.declared.kind.Kind.TheVariants as kinds
use Rattle.sdr_base.specs.declared.medium.Medium.{Medium}
use Rattle.sdr_base.specs.declared.medium.Medium.TheVariants as media
use Rattle.sdr_model.specs.Limits.{longest_path, longest_source}
use Rattle.sdr_model.specs.declared.piece.Piece.{Piece}
use Rattle.sdr_model.specs.declared.piece.Piece.TheVariants as pieces
use Rattle.zco_obj.specs.Kept.{KeepsObject}
use Rattle.zco_obj.specs.Links.{piece_of}
use Rattle.zco_obj.specs.Walks.{ExtentsAt}
use Rattle.zco_obj.specs.declared.extent.ExtentPiece.{ExtentPiece as Range}
use Rattle.zco_ref.specs.Kept.{CountedSource, KeepsTied}

-- so many bytes of a source of this medium from a place on, whose raw object has these bytes where it has one
abbrev pub medium_piece : Medium → SourceRow → List ℕ → ℕ → ℕ → Piece
medium_piece media.File row bytes offset count = pieces.File row.path offset count
medium_piece media.Bulk row bytes offset count = pieces.Bulk row.subject offset count
medium_piece medium row bytes offset count = pieces.Known (part offset count bytes)

-- so many bytes of a source from a place on
abbrev pub source_piece : SourceRow → List ℕ → ℕ → ℕ → Piece
source_piece row bytes offset count = medium_piece row.medium row bytes offset count

-- the raw object of a source of this medium has so many bytes at least; of a file or an item nothing is said
abbrev pub HasUntil : Medium → List ℕ → ℕ → Type 0
HasUntil media.File bytes end = ⊤
HasUntil media.Bulk bytes end = ⊤
HasUntil medium bytes end = end ≤ length bytes

-- a range of a source that is kept, with its raw object where it has one, is this piece
pub record IsNamed (blocks : Blocks) (range : Range) (piece : Piece) : Type 0 where
  pub source : CountedSource
  pub bytes : List ℕ
  pub tied : KeepsTied blocks range.of source bytes
  pub path : length source.row.path ≤ longest_path
  pub ends : range.offset + range.bytes ≤ longest_source
  pub inside : HasUntil source.row.medium bytes (range.offset + range.bytes)
  pub is : piece ≡ source_piece source.row bytes range.offset range.bytes

-- some piece it is
pub record SomeNamed (blocks : Blocks) (range : Range) : Type 0 where
  pub piece : Piece
  pub named : IsNamed blocks range piece

-- the extents name these pieces, each one
abbrev pub AreNamed : Blocks → List ExtentRow → List Piece → Type 0
AreNamed blocks [] [] = ⊤
AreNamed blocks (e ∷ es) (p ∷ ps) = IsNamed blocks (piece_of e) p × AreNamed blocks es ps
AreNamed blocks es ps = ⊥

-- a chain of extents stands there, and they name these pieces
pub record NamesAt (blocks : Blocks) (first : ℕ) (extents : List ExtentRow) (named : List Piece) : Type 0 where
  pub chain : ExtentsAt blocks first extents
  pub are : AreNamed blocks extents named

-- some chain stands there so
pub record SomeNames (blocks : Blocks) (first : ℕ) : Type 0 where
  pub extents : List ExtentRow
  pub named : List Piece
  pub is : NamesAt blocks first extents named

-- an object is kept, whose extents name these pieces
pub record KeepsWire (blocks : Blocks) (object : ℕ) (row : ObjectRow) (named : List Piece) : Type 0 where
  pub keeps : KeepsObject blocks object row
  pub are : AreNamed blocks row.extents named

-- some object is kept there so
pub record SomeWire (blocks : Blocks) (object : ℕ) : Type 0 where
  pub row : ObjectRow
  pub named : List Piece
  pub keeps : KeepsWire blocks object row named

-- where an object's block stands, an object is kept so
abbrev pub IsWire : Blocks → ℕ → Type 0
IsWire blocks object = IsKind (blocks object) kinds.Object → SomeWire blocks object

-- headers or trailers as pieces
abbrev pub head_pieces : List CapsuleRow → List Piece
head_pieces = map (λ c. pieces.Known c.text)

-- an object on the wire as pieces, whose extents name these
abbrev pub wire_of : ObjectRow → List Piece → List Piece
wire_of row named = head_pieces row.headers ++ (named ++ head_pieces row.trailers)
