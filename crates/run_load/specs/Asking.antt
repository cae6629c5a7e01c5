-- What a heap answers to a question, and what the question leaves.
use Rattle.std.specs.Prelude.{◌≡◌, ℕ, Bool, true, false, [], Option, None, Some}
use Rattle.law_steps.specs.Shows.{ShowsOnly}
use Rattle.sdr_base.specs.Causes.{Rose}
use Rattle.sdr_disk.specs.declared.disk.Disk.{Ghosts as DiskGhosts}
use Rattle.sdr_machine.specs.Serving.{SomeState}
use Rattle.sdr_machine.specs.Standing.{GroundState}
use Rattle.sdr_model.specs.Reading.{is_reading, reads_media}
use Rattle.sdr_model.specs.Rows.{ByRow}
use Rattle.sdr_model.specs.Steps.{Outcome}
use Rattle.sdr_model.specs.World.{World}
use Rattle.sdr_model.specs.declared.answer.Reply.{Reply}
use Rattle.sdr_model.specs.declared.answer.Reply.TheVariants as replies
use Rattle.sdr_model.specs.declared.call.Call.{Call}
use Rattle.sdr_run.specs.Quiet.{StaysQuiet}
use Rattle.sdr_station.specs.Grounded.{Grounded, StandsInMemory, StandsSome}

-- The call only asks: it reads, asks no media, and changes nothing but the bytes that the world shows.
pub record IsQuestion (call : Call) : Type 0 where
  pub reads : is_reading call ≡ true
  pub unasked : reads_media call ≡ false
  pub shows : (w w' : World) → ShowsOnly call w w' → w' ≡ record w { shown = w'.shown }

-- the row of the call allows this reply in the world
pub record AnswersByRow (w : World) (call : Call) (reply : Reply) : Type 0 where
  pub outcome : Outcome
  pub row : ByRow w outcome call
  pub told : outcome.reply ≡ reply

-- The heap in memory stands for something, questions can be asked of it, and its transaction has touched no line.
pub record IsAskable {D M : Type 0} (g : Grounded D M) : Type 0 where
  pub stands : StandsSome g
  pub going : g.stopped ≡ false
  pub untouched : g.heap.cells.touched ≡ []

-- the world is the same but for the bytes that it shows, and so is the one before the transaction
pub record ShowsOther (v v' : GroundState) : Type 0 where
  pub now : v'.now.world ≡ record v.now.world { shown = v'.now.world.shown }
  pub before : v'.before ≡ v.before

-- Questions were answered by a heap: whatever it stood for, it stands for the same but for the bytes shown, and others can be asked. The disk
-- was only read, and no media were asked.
pub record AsksOnly {D M : Type 0} (d : DiskGhosts D) (old new : Grounded D M) : Type 0 where
  pub still : StaysQuiet d old new
  pub ready : IsAskable new
  pub each : (v : GroundState) → StandsInMemory old v → SomeState StandsInMemory new (ShowsOther v)

-- The disk failed in a question of a heap, and its count of faults rose. It was only read, and no media were asked.
pub record FailsAsked {D M : Type 0} (d : DiskGhosts D) (old new : Grounded D M) : Type 0 where
  pub still : StaysQuiet d old new
  pub cause : Rose (d.faults old.heap.cells.disk) (d.faults new.heap.cells.disk)

-- the address in a reply, if it is one
abbrev pub addr_in : Reply → Option ℕ
addr_in (replies.At addr) = Some addr
addr_in reply = None

-- the value in a reply, if it is one
abbrev pub value_in : Reply → Option ℕ
value_in (replies.Value value) = Some value
value_in reply = None

-- the object in a reply that tells what a name finds, if it does
abbrev pub object_in : Reply → Option ℕ
object_in (replies.Pair kind object) = Some object
object_in reply = None

-- whether a reply tells of bytes
abbrev pub tells_bytes : Reply → Bool
tells_bytes (replies.Bytes count) = true
tells_bytes reply = false
