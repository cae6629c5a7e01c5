-- When a disk is opened.
use Rattle.std.specs.Prelude.{◌≡◌, ◌≤◌, ◌⊎◌, ℕ, Bool, false, List, [], ⊤, Some, Result, Ok, Err, IfErr}
use Rattle.sdr_base.specs.Causes.{Rose}
use Rattle.sdr_base.specs.Parts.{part}
use Rattle.sdr_base.specs.declared.line.TheConstants.{LINE}
use Rattle.sdr_disk.specs.Moments.{Only}
use Rattle.sdr_disk.specs.Tells.{IfTells}
use Rattle.sdr_log.specs.Calls.{KeepsDisk, PutsBack}
use Rattle.sdr_log.specs.Faulted.{FailsAtGate}
use Rattle.sdr_log.specs.Frame.{IsInLimits, frame_of}
use Rattle.sdr_log.specs.Log.{put_back_of}
use Rattle.sdr_log.specs.Logged.{IsLogged}
use Rattle.sdr_log.specs.declared.frame.Frame.{Frame}
use Rattle.sdr_image.specs.declared.error.ImageError.{ImageError}
use Rattle.sdr_image.specs.declared.error.ImageError.TheVariants as errors
use Rattle.sdr_image.specs.declared.error.ImageShut.{ImageShut}
use Rattle.sdr_image.specs.Opened.{Opened, Rests}

-- what holds where the disk isn't formatted
abbrev pub OnNotFormatted : ImageError → Type 0 → Type 0
OnNotFormatted errors.NotFormatted P = P
OnNotFormatted error P = ⊤

-- what holds where the disk didn't fail
abbrev pub UnlessFault : ImageError → Type 0 → Type 0
UnlessFault errors.DiskFault P = ⊤
UnlessFault error P = P

-- a disk fault comes only where the disk's count rose
abbrev pub ExplainsFault : ℕ → ℕ → ImageError → Type 0
ExplainsFault before now errors.DiskFault = Rose before now
ExplainsFault before now error = ⊤

-- the count of faults has not fallen, and a fault has its cause
pub record HasImageCause {T : Type 0} (before now : ℕ) (result : Result T ImageError) : Type 0 where
  pub later : before ≤ now
  pub explained : IfErr result (ExplainsFault before now)

-- open batches name all lines on which bytes are pending, as where a recovery was stopped
pub record IsStopped (x : List ℕ) (left : List ℕ → Type 0) : Type 0 where
  pub frame : Frame
  pub logged : IsLogged frame x left

-- nothing is pending on a disk that is handed in, or in lines alone that its open batches name
abbrev pub MayBeOpened : List ℕ → (List ℕ → Type 0) → Type 0
MayBeOpened x left = Only x left ⊎ IsStopped x left

-- a disk that might be opened may be opened again, or it failed as its recovery closed the first gate
abbrev pub FailsOpening : {D : Type 0} → (D → List ℕ) → (D → Bool) → (D → ℕ) → (D → ℕ → List ℕ → Type 0) → D → D → Type 0
FailsOpening bytes tells moment may_hold_after old new =
    IfTells (tells old) (MayBeOpened (bytes old) (may_hold_after old (moment old))
    → MayBeOpened (bytes new) (may_hold_after new (moment new))
    ⊎ FailsAtGate moment may_hold_after old new (bytes old) (bytes new))

-- An image that was just opened. The bytes are those of the heap that the disk gives; the open batches are put back;
-- nothing is touched, and no transaction is open. The disk rests, where it may be opened.
pub record IsOpened {D : Type 0} (bytes : D → List ℕ) (tells : D → Bool) (moment : D → ℕ)
    (may_hold_after : D → ℕ → List ℕ → Type 0) (disk : D) (i : Opened D) : Type 0 where
  pub limits : IsInLimits i.frame
  pub head : frame_of (part 0 LINE (bytes disk)) ≡ Some i.frame
  pub heap : put_back_of (bytes disk) ≡ Some i.bytes
  pub back : PutsBack i.frame i.restored (bytes disk) (bytes i.disk)
  pub rests : IfTells (tells disk) (MayBeOpened (bytes disk) (may_hold_after disk (moment disk))) →
      Rests bytes tells moment may_hold_after i
  pub begun : i.begun ≡ i.bytes
  pub touched : i.touched ≡ []
  pub closed : i.is_open ≡ false
  pub sound : i.failed ≡ false

-- the disk of an image, or of what is left where none was opened
abbrev pub disk_in : {D : Type 0} → Result (Opened D) (ImageShut D) → D
disk_in (Ok i) = i.disk
disk_in (Err shut) = shut.disk

-- A disk that was handed in comes back as long as it was, and tells what a crash may leave if it did. A fault has its cause.
pub record Returns {D : Type 0} (bytes : D → List ℕ) (tells : D → Bool) (faults : D → ℕ) (disk : D)
    (result : Result (Opened D) (ImageShut D)) : Type 0 where
  pub keeps : KeepsDisk bytes tells disk (disk_in result)
  pub later : faults disk ≤ faults (disk_in result)
  pub explained : IfErr result (λ shut. ExplainsFault (faults disk) (faults shut.disk) shut.why)
