-- Parts of sources and of raw objects that are appended to an object.
use Rattle.std.specs.Prelude.{◌≡◌, ◌+◌, ◌≤◌, ◌⊎◌, ℕ, false, List, [], ◌∷◌, ◌++◌, length}
use Rattle.sdr_base.specs.Blocks.{IsKind}
use Rattle.sdr_base.specs.Entries.{Changes}
use Rattle.sdr_base.specs.Making.{Made}
use Rattle.sdr_base.specs.Objects.{Heap}
use Rattle.sdr_base.specs.Raws.{raw_entries}
use Rattle.sdr_base.specs.ZcoObjects.{ObjectRow, object_entries}
use Rattle.sdr_base.specs.declared.kind.Kind.TheVariants as kinds
use Rattle.sdr_base.specs.declared.kind.Space.TheVariants as spaces
use Rattle.sdr_base.specs.declared.medium.Medium.TheVariants as media
use Rattle.sdr_base.specs.declared.moves.Move.TheVariants.{Took}
use Rattle.sdr_model.specs.Things.{extent_need, source_need}
use Rattle.sdr_model.specs.declared.accounts.Ticket.{Ticket}
use Rattle.zco_obj.specs.Amounts.{extent_amounts, use_amounts}
use Rattle.zco_obj.specs.Beside.{KeepsPair, KeepsWithRaw, KeepsWithSource}
use Rattle.zco_obj.specs.Charging.{IsFree, Pays}
use Rattle.zco_obj.specs.Extents.{extent_of, with_extent}
use Rattle.zco_obj.specs.declared.extent.ExtentPiece.{ExtentPiece}
use Rattle.zco_ref.specs.Counting.{attached}
use Rattle.zco_ref.specs.Kept.{CountedSource, KeepsRaw, KeepsSource, counted_entries}
use Rattle.zco_ref.specs.Making.{plain_row, unused}
use Rattle.zco_ref.specs.Naming.{IsUnnamed}

-- whichever object and source are kept, the object has an extent of this piece more, which is last, and it is counted
pub record NamesSource (object : ℕ) (piece : ExtentPiece) (old new : Heap) : Type 0 where
  pub addr : ℕ
  pub new_block : IsFree old.blocks addr
  pub names : (row : ObjectRow) (source : CountedSource) → KeepsPair old.blocks object row piece.of source →
      Changes old.blocks new.blocks (object_entries object row ++ counted_entries piece.of source)
      (object_entries object (with_extent row (extent_of addr piece)) ++ counted_entries piece.of (attached row.account source))
  pub made : Made (Took extent_need addr ∷ []) old new

-- the piece has a byte at least, and lies within so many
pub record IsWithin (piece : ExtentPiece) (have : ℕ) : Type 0 where
  pub some : 1 ≤ piece.bytes
  pub within : piece.offset + piece.bytes ≤ have

-- the blocks of an object and of a source stand there, and P holds of whichever source is kept
pub record OfSource (P : CountedSource → Type 0) (object addr : ℕ) (heap : Heap) : Type 0 where
  pub is_object : IsKind (heap.blocks object) kinds.Object
  pub is_source : IsKind (heap.blocks addr) kinds.Source
  pub holds : (source : CountedSource) → KeepsSource (heap.blocks addr) source → P source

-- an extent may name this piece of a source: the source isn't flagged, and has the bytes
pub record MayName (piece : ExtentPiece) (source : CountedSource) : Type 0 where
  pub unflagged : source.row.flagged ≡ false
  pub within : IsWithin piece source.row.length

-- whichever object and source are kept, the object has an extent of this piece more, which is last, the source counts it, and
-- the object's account is charged for it: for the source too, where no extent of the account named that
pub record AppendsSource (object number : ℕ) (piece : ExtentPiece) (old new : Heap) : Type 0 where
  pub may : OfSource (MayName piece) object piece.of old
  pub addr : ℕ
  pub new_block : IsFree old.blocks addr
  pub pays : (row : ObjectRow) (tickets : List Ticket) (source : CountedSource) →
      KeepsWithSource old object row tickets piece.of source →
      Pays row.account number (use_amounts row.account source) tickets (Took extent_need addr ∷ [])
      (object_entries object row ++ counted_entries piece.of source)
      (object_entries object (with_extent row (extent_of addr piece)) ++ counted_entries piece.of (attached row.account source)) old new

-- the blocks of an object and of a raw object stand there, no source names that, and P holds of the bytes of whichever is kept
pub record OfRaw (P : List ℕ → Type 0) (object raw : ℕ) (heap : Heap) : Type 0 where
  pub is_object : IsKind (heap.blocks object) kinds.Object
  pub unnamed : IsUnnamed (heap.blocks raw)
  pub holds : (bytes : List ℕ) → KeepsRaw (heap.blocks raw) 0 bytes → P bytes

-- the raw object has the bytes
abbrev pub HasPiece : ExtentPiece → List ℕ → Type 0
HasPiece piece bytes = IsWithin piece (length bytes)

-- this piece of a raw object, as one of the source that takes it over
abbrev pub taken_piece : ℕ → ExtentPiece → ExtentPiece
taken_piece source piece = record piece { of = source }

-- a source of a raw object of these bytes that it has taken over, and which no extent names
abbrev pub taking_over : ℕ → List ℕ → CountedSource
taking_over raw bytes = unused (plain_row media.Heap raw (length bytes))

-- whichever object and raw object are kept, a new source has taken that over, the object has an extent of this piece of it
-- more, which is last, the source counts it, and the object's account is charged for it and for the whole raw object
pub record AppendsRaw (object number : ℕ) (piece : ExtentPiece) (old new : Heap) : Type 0 where
  pub may : OfRaw (HasPiece piece) object piece.of old
  pub source : ℕ
  pub addr : ℕ
  pub new_source : IsFree old.blocks source
  pub new_block : IsFree old.blocks addr
  pub pays : (row : ObjectRow) (tickets : List Ticket) (bytes : List ℕ) → KeepsWithRaw old object row tickets piece.of 0 bytes →
      Pays row.account number (extent_amounts spaces.Heap (length bytes)) tickets
      (Took (source_need 0) source ∷ Took extent_need addr ∷ [])
      (object_entries object row ++ raw_entries piece.of 0 bytes)
      (object_entries object (with_extent row (extent_of addr (taken_piece source piece)))
      ++ (counted_entries source (attached row.account (taking_over piece.of bytes)) ++ raw_entries piece.of source bytes)) old new

-- a piece of a source was appended, or one of a raw object
abbrev pub AppendsPiece : ℕ → ℕ → ExtentPiece → Heap → Heap → Type 0
AppendsPiece object number piece old new = AppendsSource object number piece old new ⊎ AppendsRaw object number piece old new
