-- What `inspect` answers: by status, what is written. The disk is only read.
use Rattle.std.specs.Prelude.{◌≡◌, ℕ, List, ◌⊎◌, Some}
use Rattle.std.specs.Io.KnownBytes.{Appends}
use Rattle.sdr_stands.specs.Standing.{StandsForWhole}
use Rattle.sdr_base.specs.Causes.{Rose}
use Rattle.sdr_base.specs.Pools.{Pools}
use Rattle.sdr_base.specs.Written.{AppendsPart}
use Rattle.sdr_audit.specs.Census.{IsCensus}
use Rattle.sdr_audit.specs.declared.census.Census.{Census}
use Rattle.sdr_disk.specs.Moments.{Reads}
use Rattle.sdr_disk.specs.declared.disk.Disk.{Ghosts as DiskGhosts}
use Rattle.sdr_log.specs.Log.{put_back_of}
use Rattle.sdr_model.specs.World.{World}
use Rattle.sdr_forms.specs.Answers.{Seen, Wrote}
use Rattle.sdr_forms.specs.Recovering.{IsByHeap}
use Rattle.sdr_forms.specs.Shutting.{line_shut, status_shut}
use Rattle.sdr_forms.specs.declared.status.TheConstants.{DONE, OUTPUT_FAULT, NOT_FORMATTED, DAMAGED, NO_MEMORY}
use Rattle.sdr_station.specs.Opening.{ExplainsOpen}
use Rattle.sdr_station.specs.declared.error.OpenError.{OpenError}
use Rattle.sdr_text_world.specs.WorldText.{world_text}

-- A disk of these bytes gives a heap that stands for the world, with such blocks.
pub record GivesThis (world : World) (census : Census) (x : List ℕ) : Type 0 where
  pub heap : List ℕ
  pub gives : put_back_of x ≡ Some heap
  pub pools : Pools
  pub stands : StandsForWhole heap world pools
  pub counts : IsCensus heap census

-- The text of a world was written, as P tells: of the world for which the heap stands that a disk of these bytes gives.
pub record HasShown (x : List ℕ) (P : List ℕ → Type 0) : Type 0 where
  pub world : World
  pub census : Census
  pub given : GivesThis world census x
  pub text : P (world_text world census)

-- what an inspection came to, which its status tells
pub data InspectsTo {D : Type 0} (d : DiskGhosts D) (status : ℕ) (disk disk' : D) (sink sink' : Seen) : Type 0 where
  -- the world's text was written whole
  done : status ≡ DONE → HasShown (d.bytes disk) (Appends sink.bytes sink'.bytes) → InspectsTo d status disk disk' sink sink'
  -- the output failed, and a part of the text from its front was written
  unwritten : status ≡ OUTPUT_FAULT → Rose sink.faults sink'.faults → HasShown (d.bytes disk) (AppendsPart sink.bytes sink'.bytes)
      → InspectsTo d status disk disk' sink sink'
  -- the disk gives no heap, or one that is damaged, or it failed, or memory was wanting; the last line, which is the only one, tells it
  shut : (why : OpenError) → status ≡ status_shut why → ExplainsOpen (d.bytes disk) (d.faults disk) (d.faults disk') why
      → Wrote sink sink' (line_shut why) → InspectsTo d status disk disk' sink sink'

-- What `inspect` answers. Whatever its status, the disk was only read.
pub record AnswersInspect {D : Type 0} (d : DiskGhosts D) (status : ℕ) (disk disk' : D) (sink sink' : Seen) : Type 0 where
  pub comes : InspectsTo d status disk disk' sink sink'
  pub reads : Reads d.bytes d.tells_crashes d.moment d.may_hold_after disk disk'
  -- unless there is a fault, the status is by the heap that the disk gives
  pub complete :
      ¬ Rose (d.faults disk) (d.faults disk') → ¬ Rose sink.faults sink'.faults
      → (status ≡ DONE) ⊎ (status ≡ NOT_FORMATTED) ⊎ (status ≡ DAMAGED) ⊎ (status ≡ NO_MEMORY)
  pub exact : ¬ Rose (d.faults disk) (d.faults disk') → ¬ Rose sink.faults sink'.faults → IsByHeap status (d.bytes disk)
