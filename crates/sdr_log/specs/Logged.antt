-- What stands on a disk between two calls of the log, and what a crash may leave of it.
use Rattle.std.specs.Prelude.{◌≡◌, ◌≤◌, ◌<◌, ℕ, ◌+◌, ◌*◌, true, List, [], ◌∷◌, length, Some}
use Rattle.sdr_base.specs.declared.line.TheConstants.{LINE}
use Rattle.sdr_disk.specs.Moments.{Only}
use Rattle.sdr_base.specs.Parts.{part}
use Rattle.sdr_disk.specs.Ranges.{Agrees, Range, range}
use Rattle.sdr_log.specs.Frame.{disk_bytes, frame_of, heap_place}
use Rattle.sdr_log.specs.Log.{are_good, first_gate, put_back_of, read_log}
use Rattle.sdr_log.specs.declared.frame.Frame.{Frame}
use Rattle.sdr_log.specs.declared.record.Record.{Record}

-- the disk has the head of these regions, and both lie inside it
pub record HasRegions (f : Frame) (x : List ℕ) : Type 0 where
  pub head : frame_of (part 0 LINE x) ≡ Some f
  pub inside : disk_bytes f ≤ length x

-- the open batches are well formed, and these are their records
pub record Logs (f : Frame) (x : List ℕ) (records : List Record) : Type 0 where
  pub regions : HasRegions f x
  pub log : read_log f x ≡ Some records
  pub good : are_good f.heap_lines records ≡ true

-- where the lines of the records stand on the disk
abbrev pub line_ranges : Frame → List Record → List Range
line_ranges f [] = []
line_ranges f (r ∷ records) = range (heap_place f + LINE * r.line) LINE ∷ line_ranges f records

-- bytes are pending in lines alone that open batches name, and the open batches are well formed
pub record IsLogged (f : Frame) (x : List ℕ) (left : List ℕ → Type 0) : Type 0 where
  pub records : List Record
  pub logs : Logs f x records
  pub pending : (image : List ℕ) → left image → Agrees (line_ranges f records) x image

-- at rest: no batch is open, and nothing is pending
pub record IsAtRest (f : Frame) (x : List ℕ) (left : List ℕ → Type 0) : Type 0 where
  pub regions : HasRegions f x
  pub gate : first_gate x ≡ 0
  pub only : Only x left

-- open: there is an open batch, and all that is pending is logged
pub record IsOpen (f : Frame) (x : List ℕ) (left : List ℕ → Type 0) : Type 0 where
  pub logged : IsLogged f x left
  pub gate : 0 < first_gate x

-- opening the image gives the same heap, or none as before
abbrev pub GivesSame : List ℕ → List ℕ → Type 0
GivesSame x image = put_back_of image ≡ put_back_of x

-- opening the image gives this heap
abbrev pub GivesHeap : List ℕ → List ℕ → Type 0
GivesHeap heap image = put_back_of image ≡ Some heap
