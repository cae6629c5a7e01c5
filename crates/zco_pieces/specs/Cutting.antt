-- An object that is counted and cut into pieces.
use Rattle.std.specs.Prelude.{◌≡◌, ◌+◌, ◌*◌, ◌<◌, ◌≤◌, ◌⊎◌, ℕ, List, length}
use Rattle.std.specs.Int.{div_ceil}
use Rattle.sdr_base.specs.Blocks.{IsKind}
use Rattle.sdr_base.specs.Objects.{Heap, Misses}
use Rattle.sdr_base.specs.ZcoObjects.{ObjectRow}
use Rattle.sdr_base.specs.declared.kind.Kind.TheVariants as kinds
use Rattle.sdr_base.specs.declared.refusal.Refusal.TheVariants as refusals
use Rattle.sdr_base.specs.declared.stop.Stop.{Stop}
use Rattle.sdr_base.specs.declared.stop.Stop.TheVariants.{Refused}
use Rattle.sdr_model.specs.declared.accounts.Ticket.{Ticket}
use Rattle.zco_obj.specs.Gone.{NamedSource}
use Rattle.zco_obj.specs.Reading.{TellsObject}
use Rattle.zco_part.specs.Cloning.{ClonesPart, CloneStops, KeepsToClone}
use Rattle.zco_part.specs.Pieces.{asked}
use Rattle.zco_pieces.specs.Places.{cut_length}
use Rattle.zco_pieces.specs.declared.piece.Piece.{Piece}

-- so many bytes has the part of whichever object is kept there
abbrev pub HasLength : ℕ → ℕ → Heap → Type 0
HasLength object count heap = TellsObject heap.blocks object (λ row. row.part_length) count

-- why pieces aren't counted: they are to have no byte; or for the object's address; or a fault
abbrev pub CountStops : ℕ → ℕ → Heap → Stop → Type 0
CountStops object most heap (Refused (refusals.BadRange offset length have)) =
    (offset ≡ 0) × (length ≡ 0) × (most ≡ 0) × HasLength object have heap
CountStops object most heap stop = Misses (heap.blocks object) object kinds.Object stop

-- there is a piece of this number, where each has at most so many bytes of so many
pub record HasPiece (total most k : ℕ) : Type 0 where
  pub some : 1 ≤ most
  pub below : k < div_ceil total most

-- the heap keeps some object so that the piece of a number may be cloned, and has room for the moves
pub record SomeToCut (heap : Heap) (object most k : ℕ) : Type 0 where
  pub row : ObjectRow
  pub tickets : List Ticket
  pub sources : List NamedSource
  pub keeps : KeepsToClone heap object row tickets sources
  pub room : 1 + length (asked (k * most) (cut_length row.part_length most k) row) ≤ heap.spare

-- where an object's block stands, an object is kept so
abbrev pub IsToCut : Heap → ℕ → ℕ → ℕ → Type 0
IsToCut heap object most k = IsKind (heap.blocks object) kinds.Object → SomeToCut heap object most k

-- the piece of a number is a clone of the object's bytes from so many times the most on: the most, or what is left
pub record CutsPiece (object number most k : ℕ) (old new : Heap) (piece : Piece) : Type 0 where
  pub total : HasLength object piece.total old
  pub has : HasPiece piece.total most k
  pub offset : piece.offset ≡ k * most
  pub clones : ClonesPart object number (k * most) (cut_length piece.total most k) old new piece.object

-- there is no piece of this number, of an object of so many bytes, for which the call is refused
abbrev pub IsNoPiece : ℕ → ℕ → ℕ → Heap → Stop → Type 0
IsNoPiece object most k heap (Refused (refusals.BadRange offset length have)) =
    (offset ≡ k) × (length ≡ most) × HasLength object have heap × ((most ≡ 0) ⊎ (div_ceil have most ≤ k))
IsNoPiece object most k heap stop = ⊥

-- there is one, and it isn't cloned
pub record StopsCut (object number most k : ℕ) (old new : Heap) (stop : Stop) : Type 0 where
  pub length : ℕ
  pub total : HasLength object length old
  pub has : HasPiece length most k
  pub stops : CloneStops object number (k * most) (cut_length length most k) old new stop

-- why no piece is made: for the object's address, or since there is none of this number, and all is as before; or as a clone
-- isn't made
abbrev pub CutStops : ℕ → ℕ → ℕ → ℕ → Heap → Heap → Stop → Type 0
CutStops object number most k old new stop =
    (Misses (old.blocks object) object kinds.Object stop × (new ≡ old))
    ⊎ ((IsNoPiece object most k old stop × (new ≡ old)) ⊎ StopsCut object number most k old new stop)
