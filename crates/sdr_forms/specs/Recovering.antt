-- What `recover` answers: by status, what is put back on the disk and what is written.
use Rattle.std.specs.Prelude.{◌≡◌, ℕ, List, ◌++◌, ◌⊎◌, None, Some, codes, decimal}
use Rattle.std.specs.Io.KnownBytes.{Appends}
use Rattle.sdr_stands.specs.Standing.{StandsForWhole}
use Rattle.sdr_base.specs.Causes.{Rose}
use Rattle.sdr_base.specs.Pools.{Pools}
use Rattle.sdr_base.specs.Written.{AppendsPart}
use Rattle.sdr_disk.specs.Moments.{AtEach, Reads}
use Rattle.sdr_disk.specs.Pending.{IsSynced}
use Rattle.sdr_disk.specs.Tells.{IfTells}
use Rattle.sdr_disk.specs.declared.disk.Disk.{Ghosts as DiskGhosts}
use Rattle.sdr_image.specs.Opening.{MayBeOpened}
use Rattle.sdr_log.specs.Calls.{KeepsRest, PutsBack}
use Rattle.sdr_log.specs.Log.{first_gate, put_back_of}
use Rattle.sdr_log.specs.Logged.{GivesSame}
use Rattle.sdr_log.specs.declared.frame.Frame.{Frame}
use Rattle.sdr_model.specs.World.{World}
use Rattle.sdr_forms.specs.Answers.{Seen, Wrote}
use Rattle.sdr_forms.specs.Shutting.{line_shut, status_shut}
use Rattle.sdr_forms.specs.declared.status.TheConstants.{DONE, OUTPUT_FAULT, NOT_FORMATTED, DAMAGED, NO_MEMORY}
use Rattle.sdr_station.specs.Opening.{ExplainsOpen, LeavesBytes, MayBeAgain}
use Rattle.sdr_station.specs.declared.error.OpenError.{OpenError}

-- the line that tells how many lines were put back
abbrev pub line_recovered : ℕ → List ℕ
line_recovered count = codes "recovered " ++ decimal count ++ codes " lines\n"

-- A disk of these bytes gives a heap, for which a world stands.
pub record GivesWorld (x : List ℕ) : Type 0 where
  pub heap : List ℕ
  pub gives : put_back_of x ≡ Some heap
  pub world : World
  pub pools : Pools
  pub stands : StandsForWhole heap world pools

-- The status is that of the heap which a disk of these bytes gives: none, one for which no world stands, or one for which one does.
-- Only want of memory stands before it.
pub record IsByHeap (status : ℕ) (x : List ℕ) : Type 0 where
  pub none : put_back_of x ≡ None → (status ≡ NOT_FORMATTED) ⊎ (status ≡ NO_MEMORY)
  pub damaged :
      (heap : List ℕ) → put_back_of x ≡ Some heap → ((w : World) (P : Pools) → StandsForWhole heap w P → ⊥)
      → (status ≡ DAMAGED) ⊎ (status ≡ NO_MEMORY)
  pub taken :
      (heap : List ℕ) (w : World) (P : Pools) → put_back_of x ≡ Some heap → StandsForWhole heap w P
      → (status ≡ DONE) ⊎ (status ≡ NO_MEMORY)

-- The heap of the disk is put back, of so many lines: it stands in the heap region, the first gate is closed, and no other byte has
-- changed. A world stands for it. Nothing is pending, where nothing was, or a recovery was stopped.
pub record IsRecovered {D : Type 0} (d : DiskGhosts D) (disk disk' : D) (count : ℕ) : Type 0 where
  pub frame : Frame
  pub back : PutsBack frame count (d.bytes disk) (d.bytes disk')
  pub world : GivesWorld (d.bytes disk)
  pub synced : IfTells (d.tells_crashes disk) (MayBeOpened (d.bytes disk) (d.may_hold_after disk (d.moment disk)))
      → IsSynced d.bytes d.tells_crashes d.moment d.may_hold_after disk'

-- The heap of the disk isn't opened, for this reason. The disk's bytes are the same, where it gives no heap; and the open batches are
-- put back and closed, where no world stands for it. No byte outside the regions of which its head tells has changed. Where it might be
-- handed in before, it may be again, unless it failed as the first gate was being closed; and nothing is pending, where no world stands
-- for the heap.
pub record IsNotOpened {D : Type 0} (d : DiskGhosts D) (disk disk' : D) (why : OpenError) : Type 0 where
  pub explained : ExplainsOpen (d.bytes disk) (d.faults disk) (d.faults disk') why
  pub bytes : LeavesBytes (d.bytes disk) (d.bytes disk') why
  pub outside : KeepsRest (d.bytes disk) (d.bytes disk')
  pub again : MayBeAgain d.bytes d.tells_crashes d.moment d.may_hold_after disk disk' why

-- what a recovery came to, which its status tells
pub data RecoversTo {D : Type 0} (d : DiskGhosts D) (status : ℕ) (disk disk' : D) (sink sink' : Seen) : Type 0 where
  -- the heap was put back, and the line that tells so was written
  done : (count : ℕ) → status ≡ DONE → IsRecovered d disk disk' count → Appends sink.bytes sink'.bytes (line_recovered count)
      → RecoversTo d status disk disk' sink sink'
  -- the same, but the output failed
  unwritten : (count : ℕ) → status ≡ OUTPUT_FAULT → IsRecovered d disk disk' count → Rose sink.faults sink'.faults
      → AppendsPart sink.bytes sink'.bytes (line_recovered count) → RecoversTo d status disk disk' sink sink'
  -- the disk gives no heap, or one that is damaged, or it failed, or memory was wanting; the last line tells it
  shut : (why : OpenError) → status ≡ status_shut why → IsNotOpened d disk disk' why → Wrote sink sink' (line_shut why)
      → RecoversTo d status disk disk' sink sink'

-- What `recover` answers. Whatever its status, a disk on which no batch is open was only read. At each moment of the call a crash leaves what
-- gives the same heap as before, or none as before, where nothing was pending on the disk that was handed in, or a recovery of it was stopped.
pub record AnswersRecover {D : Type 0} (d : DiskGhosts D) (status : ℕ) (disk disk' : D) (sink sink' : Seen) : Type 0 where
  pub comes : RecoversTo d status disk disk' sink sink'
  pub quiet : first_gate (d.bytes disk) ≡ 0 → Reads d.bytes d.tells_crashes d.moment d.may_hold_after disk disk'
  pub any_moment : IfTells (d.tells_crashes disk) (MayBeOpened (d.bytes disk) (d.may_hold_after disk (d.moment disk))
      → AtEach d.moment d.may_hold_after disk disk' (GivesSame (d.bytes disk)))
  -- unless there is a fault, the status is by the heap that the disk gives
  pub complete :
      ¬ Rose (d.faults disk) (d.faults disk') → ¬ Rose sink.faults sink'.faults
      → (status ≡ DONE) ⊎ (status ≡ NOT_FORMATTED) ⊎ (status ≡ DAMAGED) ⊎ (status ≡ NO_MEMORY)
  pub exact : ¬ Rose (d.faults disk) (d.faults disk') → ¬ Rose sink.faults sink'.faults → IsByHeap status (d.bytes disk)
