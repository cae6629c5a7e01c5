-- What the calls give that read an object's bytes, in the worlds that its blocks stand for.
use Rattle.std.specs.Prelude.{◌≡◌, ◌≤◌, ◌<◌, ℕ, Bool, true, false, List, [], length, take, Option, Result, Ok, Err, ⊤}
use Rattle.step_things.specs.Answering.{Aim, IsReady}
use Rattle.sdr_stands.specs.Standing.{HeapStandsFor}
use Rattle.sdr_base.specs.Blocks.{Blocks, IsKind}
use Rattle.sdr_base.specs.Causes.{Rose}
use Rattle.sdr_base.specs.Media.{Told}
use Rattle.sdr_base.specs.Objects.{Heap, Misses}
use Rattle.sdr_base.specs.ZcoObjects.{ObjectRow}
use Rattle.sdr_base.specs.declared.kind.Kind.TheVariants as kinds
use Rattle.sdr_base.specs.declared.media.Media.{Ghosts}
use Rattle.sdr_base.specs.declared.refusal.Refusal.TheVariants.{BadLength, SourceShort}
use Rattle.sdr_base.specs.declared.stop.Stop.{Stop}
use Rattle.sdr_base.specs.declared.stop.Stop.TheVariants as stops
use Rattle.sdr_gather.specs.Gathering.{AreGathered}
use Rattle.sdr_machine.specs.Agreeing.{AgreesWith}
use Rattle.sdr_machine.specs.Ground.{asks_media}
use Rattle.sdr_machine.specs.Transaction.{bytes_given}
use Rattle.sdr_model.specs.Limits.{longest_read}
use Rattle.sdr_model.specs.Pieces.{pieces_asked}
use Rattle.sdr_model.specs.Reading.{reads_media}
use Rattle.sdr_model.specs.World.{World}
use Rattle.sdr_model.specs.declared.answer.Answer.TheVariants as answers
use Rattle.sdr_model.specs.declared.answer.Reply.{Reply}
use Rattle.sdr_model.specs.declared.answer.Reply.TheVariants as replies
use Rattle.sdr_model.specs.declared.call.Call.{Call}
use Rattle.sdr_model.specs.declared.call.Call.TheVariants as calls
use Rattle.sdr_model.specs.declared.event.Event.TheVariants as events
use Rattle.sdr_model.specs.declared.piece.Piece.{Piece}
use Rattle.zco_wire.specs.Asking.{AsksFor}
use Rattle.zco_wire.specs.Naming.{KeepsWire}
use Rattle.zco_wire.specs.Reading.{asked_headers, asked_source, asked_trailers, asked_wire}

-- the place from which a call reads
abbrev pub place_of : Call → ℕ
place_of (calls.Transmit addr place count) = place
place_of (calls.ReceiveHeaders addr place count) = place
place_of (calls.ReceiveSource addr place count) = place
place_of (calls.ReceiveTrailers addr place count) = place
place_of call = 0

-- what it asks of an object whose extents name these pieces
abbrev pub asked_by : Call → ObjectRow → List Piece → List Piece
asked_by (calls.Transmit addr place count) row named = asked_wire place count row named
asked_by (calls.ReceiveHeaders addr place count) row named = asked_headers place count row named
asked_by (calls.ReceiveSource addr place count) row named = asked_source place count row named
asked_by (calls.ReceiveTrailers addr place count) row named = asked_trailers place count row named
asked_by call row named = []

-- The object is there, and whichever is kept, the first bytes of the buffer are what the call asks of it.
pub record ReadsCall (told : Option Told) (blocks : Blocks) (addr : ℕ) (call : Call) (into : List ℕ) (given : ℕ) : Type 0 where
  pub kind : IsKind (blocks addr) kinds.Object
  pub few : given ≤ length into
  pub gives : (row : ObjectRow) (named : List Piece) → KeepsWire blocks addr row named → AreGathered told (asked_by call row named) (take given into)

-- too many bytes are asked of an object, unless there is none
abbrev pub CountStops : Blocks → ℕ → ℕ → Stop → Type 0
CountStops blocks object count (stops.Refused (BadLength bytes most)) =
    IsKind (blocks object) kinds.Object × (longest_read < count) × (bytes ≡ count) × (most ≡ longest_read)
CountStops blocks object count stop = Misses (blocks object) object kinds.Object stop

-- what a call came to agrees with what media tell
abbrev pub AgreesRead : Option Told → World → Call → Result Reply Stop → List ℕ → Type 0
AgreesRead told w call (Ok reply) shown =
    AgreesWith told w (events.Say call) (answers.Reply reply) (bytes_given (answers.Reply reply) shown)
AgreesRead told w call (Err (stops.Refused refusal)) shown =
    AgreesWith told w (events.Say call) (answers.Reply (replies.Refused refusal)) []
AgreesRead told w call (Err stop) shown = ⊤

-- so it is in each world in which calls are served and for which the heap stood
pub record AgreesIn (told : Option Told) (call : Call) (old : Heap) (result : Result Reply Stop) (shown : List ℕ) : Type 0 where
  pub each : (w : World) → HeapStandsFor old w → IsReady w → AgreesRead told w call result shown

-- whether media may have been read in a call that came to this: it asks for their bytes, and wasn't refused but for too few of them
abbrev pub may_read : Call → Result Reply Stop → Bool
may_read call (Err (stops.Refused (SourceShort have want))) = reads_media call
may_read call (Err (stops.Refused refusal)) = false
may_read call result = reads_media call

-- where a call tells that media failed or had too few bytes, it asks bytes of them, and the count of that rose; where they failed, its
-- row would have answered it
abbrev pub MissesMedia : {M : Type 0} → Ghosts M → World → Call → M → M → Result Reply Stop → Type 0
MissesMedia m w call old new (Err (stops.Refused (SourceShort have want))) =
    (asks_media w call ≡ true) × (have < want) × Rose (m.short old) (m.short new)
MissesMedia m w call old new (Err stops.MediaFault) =
    Aim w call × (asks_media w call ≡ true) × Rose (m.faults old) (m.faults new)
MissesMedia m w call old new result = ⊤

-- so it is in each world
pub record HasMediaCause {M : Type 0} (m : Ghosts M) (call : Call) (heap : Heap) (old new : M) (result : Result Reply Stop) : Type 0 where
  pub each : (w : World) → HeapStandsFor heap w → IsReady w → MissesMedia m w call old new result

-- In each world media were asked at most once for each extent that lies with them and of which the call needs bytes.
pub record AsksInEach {M : Type 0} (m : Ghosts M) (call : Call) (heap : Heap) (old new : M) : Type 0 where
  pub each : (w : World) → HeapStandsFor heap w → IsReady w → AsksFor m (pieces_asked w call) old new
