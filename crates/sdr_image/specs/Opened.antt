-- An image, as contracts see it.
use Rattle.std.specs.Prelude.{◌≡◌, ◌≤◌, ⊤, ℕ, Bool, true, false, List, [], length, Result, Ok, Err}
use Rattle.sdr_base.specs.Transaction.{Transaction}
use Rattle.sdr_base.specs.declared.stop.Stop.{Stop}
use Rattle.sdr_base.specs.declared.stop.Stop.TheVariants.{DiskFault}
use Rattle.sdr_disk.specs.Moments.{AtEach, Reads}
use Rattle.sdr_disk.specs.Tells.{IfTells}
use Rattle.sdr_log.specs.Calls.{KeepsDisk, KeepsOutside}
use Rattle.sdr_log.specs.Frame.{IsInLimits, disk_bytes, room_of}
use Rattle.sdr_log.specs.Log.{heap_of}
use Rattle.sdr_log.specs.Logged.{GivesHeap}
use Rattle.sdr_log.specs.declared.frame.Frame.{Frame}
use Rattle.sdr_image.specs.Lines.{HasBytes, IsLines, Keeps, Stands, begun_of, now_of}
use Rattle.sdr_image.specs.Marks.{touched_in}
use Rattle.sdr_image.specs.declared.lines.Lines.{Lines}

-- the disk and the lengths of its regions; the heap region now and at begin; the lines touched;
-- whether a transaction is open; whether a call has answered DiskFault; and how many lines opening put back
pub record Opened (D : Type 0) : Type 0 where
  pub disk : D
  pub frame : Frame
  pub bytes : List ℕ
  pub begun : List ℕ
  pub touched : List ℕ
  pub is_open : Bool
  pub failed : Bool
  pub restored : ℕ

-- the image of these: the bytes now are those of the heap region with the lines of the buffer, and those at begin are the
-- heap that opening the disk gives
abbrev pub image_of : {D : Type 0} → (D → List ℕ) → D → Frame → Lines → Bool → Bool → ℕ → Opened D
image_of bytes disk f lines is_open failed restored = record {
  disk = disk;
  frame = f;
  bytes = now_of f lines (bytes disk);
  begun = begun_of (bytes disk);
  touched = touched_in lines.marks;
  is_open = is_open;
  failed = failed;
  restored = restored;
}

-- what its transaction has touched, and what has failed, where the disk's faults are counted so
abbrev pub transaction_of : {D : Type 0} → (D → ℕ) → Opened D → Transaction
transaction_of faults i = record {
  touched = i.touched;
  room = room_of i.frame;
  faults = faults i.disk;
  failed = i.failed;
}

-- a call at which the disk failed: of the bytes, those at begin and the touched lines nothing is told
pub record Fails {D : Type 0} (old new : Opened D) : Type 0 where
  pub frame : new.frame ≡ old.frame
  pub restored : new.restored ≡ old.restored
  pub still_open : old.is_open ≡ true → new.is_open ≡ true
  pub failed : new.failed ≡ true

-- what a call leaves that stopped: where the disk had failed before, all
abbrev pub StaysAt : {D T : Type 0} → Result T Stop → Opened D → Opened D → Type 0
StaysAt (Err DiskFault) old new = Fails old new
StaysAt (Err stop) old new = new ≡ old
StaysAt (Ok value) old new = ⊤

-- the disk of an image keeps the bytes at begin, unless it has failed, and where it tells what a crash may leave
abbrev pub Rests : {D : Type 0} → (D → List ℕ) → (D → Bool) → (D → ℕ) → (D → ℕ → List ℕ → Type 0) → Opened D
    → Type 0
Rests bytes tells moment may_hold_after i =
    i.failed ≡ false → IfTells (tells i.disk)
    (Keeps i.frame i.begun (bytes i.disk) (may_hold_after i.disk (moment i.disk)))

-- A call within a transaction. A disk that had failed isn't reached. Unless it fails, the bytes at begin are the same and
-- are kept still. A crash leaves them at each moment of it. Where no line is touched, the disk was only read.
pub record IsQuiet {D : Type 0} (bytes : D → List ℕ) (tells : D → Bool) (moment : D → ℕ)
    (may_hold_after : D → ℕ → List ℕ → Type 0) (old new : Opened D) : Type 0 where
  pub frame : new.frame ≡ old.frame
  pub restored : new.restored ≡ old.restored
  pub still_open : old.is_open ≡ true → new.is_open ≡ true
  pub disk : KeepsDisk bytes tells old.disk new.disk
  pub inside : KeepsOutside old.frame (bytes old.disk) (bytes new.disk)
  pub forward : moment old.disk ≤ moment new.disk
  pub still : old.failed ≡ true → (new.failed ≡ true) × (new.disk ≡ old.disk)
  pub begun : new.failed ≡ false → new.begun ≡ old.begun
  pub grows : new.touched ≡ [] → old.touched ≡ []
  pub reads : new.touched ≡ [] → Reads bytes tells moment may_hold_after old.disk new.disk
  pub rests : Rests bytes tells moment may_hold_after old → Rests bytes tells moment may_hold_after new
  pub any_moment : old.failed ≡ false → Rests bytes tells moment may_hold_after old →
      IfTells (tells old.disk) (AtEach moment may_hold_after old.disk new.disk (GivesHeap old.begun))

-- opening the disk gives the bytes at begin; and where no line is touched, they stand in its heap region, and no batch is open
pub record HoldsBegun (f : Frame) (begun touched disk : List ℕ) : Type 0 where
  pub gives : GivesHeap begun disk
  pub idle : touched ≡ [] → HasBytes f begun disk

-- unless it has failed, the disk of an image has the bytes at begin
abbrev pub Holds : {D : Type 0} → (D → List ℕ) → Opened D → Type 0
Holds bytes i = i.failed ≡ false → HoldsBegun i.frame i.begun i.touched (bytes i.disk)

-- a crash now leaves only what gives this heap, where the disk tells what it may leave
abbrev pub LeavesHeap : {D : Type 0} → (D → Bool) → (D → ℕ) → (D → ℕ → List ℕ → Type 0) → List ℕ → D → Type 0
LeavesHeap tells moment may_hold_after bytes disk =
    IfTells (tells disk) ((image : List ℕ) → may_hold_after disk (moment disk) image → GivesHeap bytes image)

-- where the disk of an image rests, it still does later; and at each moment up to then a crash leaves what gives the
-- bytes at begin, where the disk had not failed before
pub record KeepsBegun {D : Type 0} (bytes : D → List ℕ) (tells : D → Bool) (moment : D → ℕ)
    (may_hold_after : D → ℕ → List ℕ → Type 0) (old new : Opened D) : Type 0 where
  pub rests : Rests bytes tells moment may_hold_after old → Rests bytes tells moment may_hold_after new
  pub any_moment : old.failed ≡ false → Rests bytes tells moment may_hold_after old →
      IfTells (tells old.disk) (AtEach moment may_hold_after old.disk new.disk (GivesHeap old.begun))

-- What each image keeps: its lengths and its lines. Where no transaction is open, no line is touched, and no batch is open;
-- and unless its disk has failed, this has the bytes at begin, and those now with the lines in memory.
pub record IsImage (x : List ℕ) (f : Frame) (lines : Lines) (is_open failed : Bool) : Type 0 where
  pub limits : IsInLimits f
  pub fits : disk_bytes f ≤ length x
  pub lines_kept : IsLines f lines
  pub idle : is_open ≡ false → (touched_in lines.marks ≡ []) × HasBytes f (heap_of f x) x
  pub stands : failed ≡ false → Stands f (begun_of x) lines x
