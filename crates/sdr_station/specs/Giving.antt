-- What a call gives of bytes.
use Rattle.std.specs.Prelude.{◌≡◌, ℕ, Bool, false, List, length, take, drop, Option, None, Some, IfSome, MatchOption}
use Rattle.sdr_machine.specs.Standing.{GroundState}
use Rattle.sdr_base.specs.declared.media.Media.{Ghosts as MediaGhosts}
use Rattle.sdr_base.specs.declared.refusal.Refusal.TheVariants as refusals
use Rattle.sdr_model.specs.Pieces.{pieces_asked}
use Rattle.sdr_model.specs.Reading.{reads_media}
use Rattle.sdr_model.specs.declared.answer.Reply.{Reply}
use Rattle.sdr_model.specs.declared.answer.Reply.TheVariants as replies
use Rattle.sdr_model.specs.declared.call.Call.{Call}
use Rattle.sdr_station.specs.Grounded.{Grounded, StandsInMemory}
use Rattle.zco_wire.specs.Asking.{AsksFor}

-- how many bytes a reply tells of, if it does: bytes that were read, or a name of the catalogue
abbrev pub bytes_told : Reply → Option ℕ
bytes_told (replies.Bytes count) = Some count
bytes_told (replies.Named count kind addr) = Some count
bytes_told reply = None

-- whether media may have been read in a call that was answered so: it asks for their bytes, and wasn't refused but for too few of them
abbrev pub reads_by : Call → Reply → Bool
reads_by call (replies.Refused (refusals.SourceShort have want)) = reads_media call
reads_by call (replies.Refused refusal) = false
reads_by call reply = reads_media call

-- where the reply tells of bytes, they are as many as are shown, and no call was stopped
abbrev pub GivesReply : {D M : Type 0} → Reply → Grounded D M → Type 0
GivesReply reply g = IfSome (bytes_told reply) (λ count. (length g.shown ≡ count) × (g.stopped ≡ false))

-- The first so many bytes of a buffer are what the current world shows, and the others stay.
pub record HasShown {D M : Type 0} (g : Grounded D M) (count : ℕ) (old new : List ℕ) : Type 0 where
  pub shown : (v : GroundState) → StandsInMemory g v → take count new ≡ v.now.world.shown
  pub others : drop count new ≡ drop count old

-- where the reply tells of bytes, they are in the buffer; else it stays
abbrev pub Fills : {D M : Type 0} → Grounded D M → Reply → List ℕ → List ℕ → Type 0
Fills g reply old new = MatchOption (bytes_told reply) (new ≡ old) (λ count. HasShown g count old new)

-- In a call media were asked at most once for each extent that lies with them and of which it needs bytes, in whatever world the ground
-- stood for.
pub record AsksMedia {D M : Type 0} (m : MediaGhosts M) (call : Call) (old new : Grounded D M) : Type 0 where
  pub each : (v : GroundState) → StandsInMemory old v → AsksFor m (pieces_asked v.now.world call) old.media new.media
