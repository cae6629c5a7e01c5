-- Why a read of an object's bytes stops.
use Rattle.std.specs.Prelude.{◌≡◌, ◌≤◌, ◌<◌, ℕ, List, ◌∷◌, ◌++◌, Result, Ok, Err, ⊤}
use Rattle.std.specs.List.{list_any}
use Rattle.sdr_base.specs.Blocks.{Blocks, IsKind}
use Rattle.sdr_base.specs.Causes.{Rose}
use Rattle.sdr_base.specs.Objects.{Misses, OnlyFault}
use Rattle.sdr_base.specs.ZcoObjects.{ExtentRow, ObjectRow}
use Rattle.sdr_base.specs.declared.kind.Kind.TheVariants as kinds
use Rattle.sdr_base.specs.declared.media.Media.{Ghosts}
use Rattle.sdr_base.specs.declared.refusal.Refusal.TheVariants.{BadAddress, BadLength, SourceShort, WrongKind}
use Rattle.sdr_base.specs.declared.stop.Stop.{Stop}
use Rattle.sdr_base.specs.declared.stop.Stop.TheVariants as stops
use Rattle.sdr_gather.specs.Gathering.{IsGapIn, IsGapOf, OfMedia}
use Rattle.sdr_gather.specs.declared.gathering.Gap.TheVariants as gaps
use Rattle.sdr_machine.specs.Ground.{lies_with_media}
use Rattle.sdr_model.specs.Limits.{longest_read}
use Rattle.sdr_model.specs.declared.piece.Piece.{Piece}
use Rattle.zco_obj.specs.declared.extent.ExtentPiece.{ExtentPiece as Range}
use Rattle.zco_wire.specs.Going.{ahead}
use Rattle.zco_wire.specs.Naming.{IsNamed, KeepsWire, NamesAt}
use Rattle.zco_wire.specs.declared.cursor.Cursor.{Cursor}

-- A stop as the heap has a part in it: where media failed, the heap did as in an answered call.
abbrev pub past_stop : Stop → Result ⊤ Stop
past_stop stops.MediaFault = Ok tt
past_stop stop = Err stop

-- so an answer
abbrev pub past_media : {T : Type 0} → Result T Stop → Result ⊤ Stop
past_media (Ok value) = Ok tt
past_media (Err stop) = past_stop stop

-- media tell what they told, and their counts have not fallen
pub record KeepsTold {M : Type 0} (m : Ghosts M) (old new : M) : Type 0 where
  pub told : m.told new ≡ m.told old
  pub faults : m.faults old ≤ m.faults new
  pub short : m.short old ≤ m.short new

-- a piece wasn't read: media failed or had too few bytes of it, whose count rose, or the heap's disk failed
abbrev pub StopsPiece : {M : Type 0} → Ghosts M → Piece → M → M → Stop → Type 0
StopsPiece m piece old new (stops.Refused (SourceShort have want)) =
    IsGapOf (m.told old) piece (OfMedia (lies_with_media piece) (Rose (m.faults old) (m.faults new)))
    (OfMedia (lies_with_media piece) (Rose (m.short old) (m.short new))) (gaps.Short have want)
StopsPiece m piece old new stops.MediaFault =
    IsGapOf (m.told old) piece (OfMedia (lies_with_media piece) (Rose (m.faults old) (m.faults new)))
    (OfMedia (lies_with_media piece) (Rose (m.short old) (m.short new))) gaps.Fault
StopsPiece m piece old new stop = OnlyFault stop

-- pieces weren't read, one after another: the same of the first of which media have too few
abbrev pub StopsPieces : {M : Type 0} → Ghosts M → List Piece → M → M → Stop → Type 0
StopsPieces m pieces old new (stops.Refused (SourceShort have want)) =
    IsGapIn (m.told old) pieces (OfMedia (list_any lies_with_media pieces) (Rose (m.faults old) (m.faults new)))
    (OfMedia (list_any lies_with_media pieces) (Rose (m.short old) (m.short new))) (gaps.Short have want)
StopsPieces m pieces old new stops.MediaFault =
    IsGapIn (m.told old) pieces (OfMedia (list_any lies_with_media pieces) (Rose (m.faults old) (m.faults new)))
    (OfMedia (list_any lies_with_media pieces) (Rose (m.short old) (m.short new))) gaps.Fault
StopsPieces m pieces old new stop = OnlyFault stop

-- whichever piece the range of a source is, it wasn't read
pub record StopsRange {M : Type 0} (m : Ghosts M) (blocks : Blocks) (range : Range) (old new : M) (stop : Stop) : Type 0 where
  pub stops : (p : Piece) → IsNamed blocks range p → StopsPiece m p old new stop

-- whichever piece it is, what was to be given of it, and of others behind it, wasn't read
pub record StopsAtRange {M : Type 0} (m : Ghosts M) (blocks : Blocks) (range : Range) (at : Cursor) (room : ℕ) (old new : M) (stop : Stop)
    : Type 0 where
  pub stops : (p : Piece) → IsNamed blocks range p → (others : List Piece)
      → StopsPieces m (ahead at room (p ∷ others)) old new stop

-- whichever pieces a chain of extents names, what was to be given of them, and of others behind them, wasn't read
pub record StopsAtNamed {M : Type 0} (m : Ghosts M) (blocks : Blocks) (first : ℕ) (at : Cursor) (room : ℕ) (old new : M) (stop : Stop)
    : Type 0 where
  pub stops : (extents : List ExtentRow) (named : List Piece) → NamesAt blocks first extents named → (others : List Piece)
      → StopsPieces m (ahead at room (named ++ others)) old new stop

-- whichever object is kept, what was to be given of it wasn't read
pub record StopsObject {M : Type 0} (m : Ghosts M) (blocks : Blocks) (object : ℕ) (asked : ObjectRow → List Piece → List Piece) (old new : M)
    (stop : Stop) : Type 0 where
  pub stops : (row : ObjectRow) (named : List Piece) → KeepsWire blocks object row named → StopsPieces m (asked row named) old new stop

-- Why a read of an object stops: it isn't there, or too many bytes are asked, for which media aren't asked; or what is asked of it
-- wasn't read.
abbrev pub ReadStops : {M : Type 0} → Ghosts M → Blocks → ℕ → ℕ → (ObjectRow → List Piece → List Piece) → M → M → Stop → Type 0
ReadStops m blocks object count asked old new (stops.Refused (BadAddress addr)) =
    (new ≡ old) × Misses (blocks object) object kinds.Object (stops.Refused (BadAddress addr))
ReadStops m blocks object count asked old new (stops.Refused (WrongKind addr number)) =
    (new ≡ old) × Misses (blocks object) object kinds.Object (stops.Refused (WrongKind addr number))
ReadStops m blocks object count asked old new (stops.Refused (BadLength bytes most)) =
    IsKind (blocks object) kinds.Object × (longest_read < count) × (bytes ≡ count) × (most ≡ longest_read) × (new ≡ old)
ReadStops m blocks object count asked old new (stops.Refused (SourceShort have want)) =
    IsKind (blocks object) kinds.Object × (count ≤ longest_read)
    × StopsObject m blocks object asked old new (stops.Refused (SourceShort have want))
ReadStops m blocks object count asked old new stops.MediaFault =
    IsKind (blocks object) kinds.Object × (count ≤ longest_read) × StopsObject m blocks object asked old new stops.MediaFault
ReadStops m blocks object count asked old new stop = OnlyFault stop

-- a buffer is refused that has more bytes than are given at once
abbrev pub IsPageRefused : ℕ → Stop → Type 0
IsPageRefused count (stops.Refused (BadLength bytes most)) = (longest_read < count) × (bytes ≡ count) × (most ≡ longest_read)
IsPageRefused count stop = ⊥
