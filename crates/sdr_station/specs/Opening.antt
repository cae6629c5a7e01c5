-- When a heap is opened.
use Rattle.std.specs.Prelude.{◌≡◌, ℕ, Bool, List, [], false, true, ⊤, None, Some, Result, Ok, Err}
use Rattle.sdr_stands.specs.Standing.{StandsForWhole}
use Rattle.sdr_base.specs.Causes.{Rose}
use Rattle.sdr_base.specs.Parts.{part}
use Rattle.sdr_base.specs.Pools.{Pools}
use Rattle.sdr_base.specs.declared.line.TheConstants.{LINE}
use Rattle.sdr_audit.specs.Checked.{IsWrongFirst}
use Rattle.sdr_audit.specs.declared.error.AuditError.{AuditError}
use Rattle.sdr_audit.specs.declared.error.AuditError.TheVariants as audits
use Rattle.audit_blocks.specs.declared.error.Check.{Check}
use Rattle.sdr_disk.specs.Pending.{IsSynced}
use Rattle.sdr_disk.specs.Tells.{IfTells}
use Rattle.sdr_image.specs.Opening.{FailsOpening, MayBeOpened}
use Rattle.sdr_image.specs.declared.error.ImageError.{ImageError}
use Rattle.sdr_image.specs.declared.error.ImageError.TheVariants as images
use Rattle.sdr_machine.specs.Ground.{Ground, State, resting}
use Rattle.sdr_machine.specs.Standing.{standing_at}
use Rattle.sdr_log.specs.Calls.{PutsBack}
use Rattle.sdr_log.specs.Frame.{frame_of, room_of}
use Rattle.sdr_log.specs.Log.{put_back_of}
use Rattle.sdr_log.specs.declared.frame.Frame.{Frame}
use Rattle.sdr_model.specs.World.{World}
use Rattle.audit_world.specs.Told.{world_of}
use Rattle.audit_world.specs.ToldPools.{pools_of}
use Rattle.sdr_station.specs.Grounded.{Grounded, StandsForBoth, StandsInMemory}
use Rattle.sdr_station.specs.declared.error.OpenError.{OpenError}
use Rattle.sdr_station.specs.declared.error.OpenError.TheVariants as errors
use Rattle.sdr_station.specs.declared.error.Shut.{Shut}

-- the world and the pools that a heap's bytes tell, which a run on it begins with: no transaction is open
abbrev pub first_on : {D M : Type 0} → Grounded D M → State
first_on g =
    let bytes = g.heap.cells.begun in
    resting (world_of bytes) (Ground.OnHeap (room_of g.heap.cells.frame) (pools_of bytes))

-- A heap was opened at its disk's moment: the disk gives its bytes, and so many lines of its open batches were put back. The heap in memory stands for the
-- world that they tell; so does the heap on its disk, where nothing was pending on the disk, or a recovery was stopped.
pub record IsOpen {D M : Type 0} (bytes : D → List ℕ) (tells : D → Bool) (moment : D → ℕ)
    (may_hold_after : D → ℕ → List ℕ → Type 0) (disk : D) (g : Grounded D M) : Type 0 where
  pub going : g.stopped ≡ false
  pub idle : g.idle ≡ true
  pub sound : g.heap.cells.failed ≡ false
  pub seen : g.moment ≡ moment g.heap.cells.disk
  pub head : frame_of (part 0 LINE (bytes disk)) ≡ Some g.heap.cells.frame
  pub gives : put_back_of (bytes disk) ≡ Some g.heap.cells.begun
  pub back : PutsBack g.heap.cells.frame g.restored (bytes disk) (bytes g.heap.cells.disk)
  pub memory : StandsInMemory g (standing_at (first_on g) [])
  pub stands : IfTells (tells disk) (MayBeOpened (bytes disk) (may_hold_after disk (moment disk)))
      → StandsForBoth bytes tells moment may_hold_after g (standing_at (first_on g) [])

-- the disk of a heap that was opened, or of what is left where none was
abbrev pub disk_of : {D M : Type 0} → Result (Grounded D M) (Shut D M) → D
disk_of (Ok g) = g.heap.cells.disk
disk_of (Err shut) = shut.disk

-- and its media
abbrev pub media_of : {D M : Type 0} → Result (Grounded D M) (Shut D M) → M
media_of (Ok g) = g.media
media_of (Err shut) = shut.media

-- the heap that the disk gives is wrong first at a place, by this check, and no world stands for it
pub record GivesDamaged (place : ℕ) (why : Check) (x : List ℕ) : Type 0 where
  pub heap : List ℕ
  pub gives : put_back_of x ≡ Some heap
  pub wrong : IsWrongFirst heap why place
  pub none : (w : World) (P : Pools) → StandsForWhole heap w P → ⊥

-- why a heap wasn't opened, where the disk had these bytes, and its count of faults was so and is so
abbrev pub ExplainsOpen : List ℕ → ℕ → ℕ → OpenError → Type 0
ExplainsOpen x before now errors.NotFormatted = put_back_of x ≡ None
ExplainsOpen x before now (errors.Damaged place why) = GivesDamaged place why x
ExplainsOpen x before now errors.DiskFault = Rose before now
ExplainsOpen x before now errors.NoMemory = ⊤

-- The open batches of a disk, in some regions, are put back and closed.
pub record ArePutBack (x y : List ℕ) : Type 0 where
  pub frame : Frame
  pub count : ℕ
  pub back : PutsBack frame count x y

-- what a heap that wasn't opened leaves of the disk's bytes: the same, where the disk gives none; and where it is damaged, the open
-- batches are put back and closed
abbrev pub LeavesBytes : List ℕ → List ℕ → OpenError → Type 0
LeavesBytes x y errors.NotFormatted = y ≡ x
LeavesBytes x y (errors.Damaged place why) = ArePutBack x y
LeavesBytes x y why = ⊤

-- what holds where the disk didn't fail
abbrev pub UnlessFault : OpenError → Type 0 → Type 0
UnlessFault errors.DiskFault P = ⊤
UnlessFault why P = P

-- what holds where the disk failed
abbrev pub OnFault : OpenError → Type 0 → Type 0
OnFault errors.DiskFault P = P
OnFault why P = ⊤

-- what holds where the heap is damaged
abbrev pub OnDamaged : OpenError → Type 0 → Type 0
OnDamaged (errors.Damaged place check) P = P
OnDamaged why P = ⊤

-- A heap wasn't opened, for this reason, and its disk might be opened before: so it may again, unless it failed as its recovery closed
-- the first gate. Where the heap is damaged nothing is pending: what was put back is synced.
pub record MayBeAgain {D : Type 0} (bytes : D → List ℕ) (tells : D → Bool) (moment : D → ℕ) (may_hold_after : D → ℕ → List ℕ → Type 0)
    (old new : D) (why : OpenError) : Type 0 where
  pub again : IfTells (tells old) (MayBeOpened (bytes old) (may_hold_after old (moment old)))
      → UnlessFault why (IfTells (tells new) (MayBeOpened (bytes new) (may_hold_after new (moment new))))
  pub faulted : OnFault why (FailsOpening bytes tells moment may_hold_after old new)
  pub synced : IfTells (tells old) (MayBeOpened (bytes old) (may_hold_after old (moment old)))
      → OnDamaged why (IsSynced bytes tells moment may_hold_after new)

-- an image's error as a heap's
abbrev pub IsOfImage : ImageError → OpenError → Type 0
IsOfImage images.NotFormatted why = why ≡ errors.NotFormatted
IsOfImage images.DiskFault why = why ≡ errors.DiskFault
IsOfImage images.NoMemory why = why ≡ errors.NoMemory

-- an audit's error as a heap's
abbrev pub IsOfAudit : AuditError → OpenError → Type 0
IsOfAudit (audits.Damaged place check) why = why ≡ errors.Damaged place check
IsOfAudit audits.DiskFault why = why ≡ errors.DiskFault
IsOfAudit audits.Failed why = why ≡ errors.DiskFault
IsOfAudit audits.NoMemory why = why ≡ errors.NoMemory
