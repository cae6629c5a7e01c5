-- Why no part of a source or of a raw object is appended.
use Rattle.std.specs.Prelude.{◌≡◌, ◌+◌, ◌<◌, ◌⊎◌, ◌-◌, ℕ, false, true, List, [], ◌∷◌, ◌++◌, length}
use Rattle.sdr_base.specs.Blocks.{IsKind}
use Rattle.sdr_base.specs.Objects.{AreFirstOf, Heap, Misses, OnlyFault}
use Rattle.sdr_base.specs.declared.kind.Kind.TheVariants as kinds
use Rattle.sdr_base.specs.declared.kind.Space.TheVariants as spaces
use Rattle.sdr_base.specs.declared.moves.Move.{Move}
use Rattle.sdr_base.specs.declared.moves.Move.TheVariants.{Short, Took}
use Rattle.sdr_base.specs.declared.refusal.Refusal.{Refusal}
use Rattle.sdr_base.specs.declared.refusal.Refusal.TheVariants as refusals
use Rattle.sdr_base.specs.declared.stop.Stop.{Stop}
use Rattle.sdr_base.specs.declared.stop.Stop.TheVariants.{Refused}
use Rattle.sdr_model.specs.Things.{extent_need, source_need}
use Rattle.zco_obj.specs.Amounts.{extent_amounts, use_amounts}
use Rattle.zco_obj.specs.Appending.{HasPiece, MayName, OfRaw, OfSource}
use Rattle.zco_obj.specs.Charging.{LacksBlock, LacksRoom, ObjectAllows, ObjectRefuses}
use Rattle.zco_obj.specs.declared.extent.ExtentPiece.{ExtentPiece}
use Rattle.zco_ref.specs.Kept.{CountedSource}
use Rattle.zco_ref.specs.Naming.{RawStops}

-- a piece is refused for its range: it has no byte, or doesn't lie within so many
abbrev pub RangeRefused : ExtentPiece → ℕ → Stop → Type 0
RangeRefused piece have (Refused (refusals.BadRange offset bytes most)) =
    (offset ≡ piece.offset) × (bytes ≡ piece.bytes) × (most ≡ have)
    × ((piece.bytes ≡ 0) ⊎ (have < piece.offset + piece.bytes))
RangeRefused piece have stop = ⊥

-- an extent may name this piece of a source, and the object's account allows its charge
pub record SourceAllowed (object number : ℕ) (piece : ExtentPiece) (heap : Heap) (source : CountedSource) : Type 0 where
  pub may : MayName piece source
  pub allows : ObjectAllows object number (λ acct. use_amounts acct source) heap

-- an extent may name it, and the object's account has this cause to refuse
pub record SourceRefused (object number : ℕ) (piece : ExtentPiece) (heap : Heap) (refusal : Refusal) (source : CountedSource) : Type 0 where
  pub may : MayName piece source
  pub refuses : ObjectRefuses object number (λ acct. use_amounts acct source) heap refusal

-- the source isn't flagged, and the piece is refused for its range
abbrev pub OutsideSource : ExtentPiece → Refusal → CountedSource → Type 0
OutsideSource piece refusal source = (source.row.flagged ≡ false) × RangeRefused piece source.row.length (Refused refusal)

-- why no piece of a source is appended: the source is flagged, or has not the bytes, or the object's account refuses, in this
-- order, and all is as before; or there is no block for the extent, or no log room; or a fault
abbrev pub SourceStops : ℕ → ℕ → ExtentPiece → Heap → Heap → Stop → Type 0
SourceStops object number piece old new (Refused refusals.NotFound) =
    OfSource (λ source. source.row.flagged ≡ true) object piece.of old × (new ≡ old)
SourceStops object number piece old new (Refused (refusals.BadRange offset bytes have)) =
    OfSource (OutsideSource piece (refusals.BadRange offset bytes have)) object piece.of old × (new ≡ old)
SourceStops object number piece old new (Refused (refusals.NoBlock missing)) =
    OfSource (SourceAllowed object number piece old) object piece.of old
    × LacksRoom extent_need old new (Refused (refusals.NoBlock missing))
SourceStops object number piece old new (Refused (refusals.LogFull lines room)) =
    OfSource (SourceAllowed object number piece old) object piece.of old
    × LacksRoom extent_need old new (Refused (refusals.LogFull lines room))
SourceStops object number piece old new (Refused refusal) =
    OfSource (SourceRefused object number piece old refusal) object piece.of old × (new ≡ old)
SourceStops object number piece old new stop = OnlyFault stop

-- a raw object of these bytes has the piece, and the object's account allows the charge
pub record RawAllowed (object number : ℕ) (piece : ExtentPiece) (heap : Heap) (bytes : List ℕ) : Type 0 where
  pub has : HasPiece piece bytes
  pub allows : ObjectAllows object number (λ acct. extent_amounts spaces.Heap (length bytes)) heap

-- it has the piece, and the object's account has this cause to refuse
pub record RawRefused (object number : ℕ) (piece : ExtentPiece) (heap : Heap) (refusal : Refusal) (bytes : List ℕ) : Type 0 where
  pub has : HasPiece piece bytes
  pub refuses : ObjectRefuses object number (λ acct. extent_amounts spaces.Heap (length bytes)) heap refusal

-- want of the second of two blocks is noted, and no move was made before but that the first was taken
pub record LacksSecond (first second missing : ℕ) (old new : Heap) : Type 0 where
  pub addr : ℕ
  pub is : missing ≡ second
  pub moves : new.moves ≡ old.moves ++ (Took first addr ∷ Short second ∷ [])
  pub spare : new.spare ≡ old.spare - 2

-- no move was made but that two blocks were taken at most, in this order
pub record TookNoMoreThanTwo (first second : ℕ) (old new : Heap) : Type 0 where
  pub addr : ℕ
  pub next : ℕ
  pub made : List Move
  pub some : AreFirstOf (Took first addr ∷ Took second next ∷ []) made
  pub moves : new.moves ≡ old.moves ++ made
  pub spare : new.spare ≡ old.spare - length made

-- why a call stops that has charged and wants two blocks: there is none for one of them, or no log room; or a fault
abbrev pub LacksRooms : ℕ → ℕ → Heap → Heap → Stop → Type 0
LacksRooms first second old new (Refused (refusals.NoBlock missing)) =
    LacksBlock first missing old new ⊎ LacksSecond first second missing old new
LacksRooms first second old new (Refused (refusals.LogFull lines room)) = TookNoMoreThanTwo first second old new
LacksRooms first second old new (Refused refusal) = ⊥
LacksRooms first second old new stop = OnlyFault stop

-- the block of an object stands there, and none of a source at the other address, for which the call is refused
pub record NamesNoRaw (object : ℕ) (piece : ExtentPiece) (heap : Heap) (refusal : Refusal) : Type 0 where
  pub is_object : IsKind (heap.blocks object) kinds.Object
  pub other : IsKind (heap.blocks piece.of) kinds.Source → ⊥
  pub stops : RawStops heap.blocks piece.of (Refused refusal)

-- why no piece of a raw object is appended: for its address, or since a source names it, or since it has not the bytes, or the
-- object's account refuses, in this order, and all is as before; or there is no block for the source or for the extent, or no
-- log room; or a fault
abbrev pub RawPieceStops : ℕ → ℕ → ExtentPiece → Heap → Heap → Stop → Type 0
RawPieceStops object number piece old new (Refused (refusals.BadAddress bad)) =
    NamesNoRaw object piece old (refusals.BadAddress bad) × (new ≡ old)
RawPieceStops object number piece old new (Refused (refusals.WrongKind bad kind)) =
    NamesNoRaw object piece old (refusals.WrongKind bad kind) × (new ≡ old)
RawPieceStops object number piece old new (Refused (refusals.InUse bad count)) =
    NamesNoRaw object piece old (refusals.InUse bad count) × (new ≡ old)
RawPieceStops object number piece old new (Refused (refusals.BadRange offset bytes have)) =
    OfRaw (λ text. RangeRefused piece (length text) (Refused (refusals.BadRange offset bytes have))) object piece.of old × (new ≡ old)
RawPieceStops object number piece old new (Refused (refusals.NoBlock missing)) =
    OfRaw (RawAllowed object number piece old) object piece.of old
    × LacksRooms (source_need 0) extent_need old new (Refused (refusals.NoBlock missing))
RawPieceStops object number piece old new (Refused (refusals.LogFull lines room)) =
    OfRaw (RawAllowed object number piece old) object piece.of old
    × LacksRooms (source_need 0) extent_need old new (Refused (refusals.LogFull lines room))
RawPieceStops object number piece old new (Refused refusal) =
    OfRaw (RawRefused object number piece old refusal) object piece.of old × (new ≡ old)
RawPieceStops object number piece old new stop = OnlyFault stop

-- why none was: for the object, and all is as before; or else for what it is of
abbrev pub AppendStops : ℕ → ℕ → ExtentPiece → Heap → Heap → Stop → Type 0
AppendStops object number piece old new (Refused refusal) =
    (Misses (old.blocks object) object kinds.Object (Refused refusal) × (new ≡ old))
    ⊎ (SourceStops object number piece old new (Refused refusal) ⊎ RawPieceStops object number piece old new (Refused refusal))
AppendStops object number piece old new stop = OnlyFault stop
