-- When the calls of the log may be made, and what they change.
use Rattle.std.specs.Prelude.{◌≡◌, ◌≤◌, ◌<◌, ℕ, ◌+◌, ◌*◌, ◌⊎◌, ⊤, Bool, true, List, [], ◌∷◌, ◌++◌, length}
use Rattle.std.specs.Prelude.{Some, None, option_map}
use Rattle.sdr_base.specs.declared.line.TheConstants.{LINE}
use Rattle.sdr_disk.specs.Moments.{Only}
use Rattle.sdr_base.specs.Parts.{overwrite, part}
use Rattle.sdr_disk.specs.Ranges.{Agrees, Range, range}
use Rattle.sdr_log.specs.Batch.{batch_size, log_end}
use Rattle.sdr_log.specs.Frame.{IsInLimits, disk_bytes, frame_of, heap_place}
use Rattle.sdr_log.specs.Log.{are_good, first_gate, heap_of, names_line, put_back_of, put_records}
use Rattle.sdr_log.specs.Log.{read_log}
use Rattle.sdr_log.specs.Logged.{GivesHeap, GivesSame, HasRegions, IsAtRest, IsLogged, IsOpen, Logs}
use Rattle.sdr_log.specs.declared.frame.Frame.{Frame}
use Rattle.sdr_log.specs.declared.record.Record.{Record}

-- each record has the bytes of its line
abbrev pub HoldLines : List ℕ → List Record → Type 0
HoldLines heap [] = ⊤
HoldLines heap (r ∷ records) = (r.bytes ≡ part (LINE * r.line) LINE heap) × HoldLines heap records

-- the lines are of the heap
abbrev pub AreBelow : ℕ → List Record → Type 0
AreBelow lines [] = ⊤
AreBelow lines (r ∷ records) = (r.line < lines) × AreBelow lines records

-- these records name the lines of all of the others
abbrev pub AreNamed : List Record → List Record → Type 0
AreNamed records [] = ⊤
AreNamed records (r ∷ others) = (names_line records r.line ≡ true) × AreNamed records others

-- the disk with these records' bytes in place of their lines
abbrev pub with_records : Frame → List Record → List ℕ → List ℕ
with_records f [] x = x
with_records f (r ∷ records) x = with_records f records (overwrite (heap_place f + LINE * r.line) r.bytes x)

-- a batch of so many records has room in the log region from a place on, and in a buffer of so many bytes
pub record HasPlace (f : Frame) (place count bytes : ℕ) : Type 0 where
  pub some : 0 < count
  pub fits : place + batch_size count < LINE * f.log_lines
  pub gathered : batch_size count ≤ bytes

-- A batch may be opened at a place: the open batches end there, and no line of the new one is named before.
-- The new one has the bytes of its lines.
pub record MayOpen (f : Frame) (place : ℕ) (records : List Record) (x : List ℕ) (left : List ℕ → Type 0) : Type 0 where
  pub logged : IsLogged f x left
  pub ends : log_end f x ≡ Some place
  pub good : are_good f.heap_lines (logged.records ++ records) ≡ true
  pub own : HoldLines (heap_of f x) records

-- the batch is open, behind the others, and opening the disk gives the same heap as before
pub record OpensBatch (f : Frame) (place : ℕ) (records : List Record) (x y : List ℕ) (left : List ℕ → Type 0) : Type 0
  where
    pub is_open : IsOpen f y left
    pub log : read_log f y ≡ option_map (λ earlier. earlier ++ records) (read_log f x)
    pub ends : log_end f y ≡ Some (place + batch_size (length records))
    pub heap : heap_of f y ≡ heap_of f x
    pub back : GivesSame x y

-- lines may be put: open batches name each of them
pub record MayPut (f : Frame) (lines : List Record) (x : List ℕ) (left : List ℕ → Type 0) : Type 0 where
  pub logged : IsLogged f x left
  pub named : AreNamed logged.records lines

-- the lines are put, the open batches are as before, and opening the disk gives the same heap as before
pub record Puts (f : Frame) (lines : List Record) (x y : List ℕ) (left : List ℕ → Type 0) : Type 0 where
  pub logged : IsLogged f y left
  pub heap : heap_of f y ≡ put_records lines (heap_of f x)
  pub log : read_log f y ≡ read_log f x
  pub ends : log_end f y ≡ log_end f x
  pub gate : first_gate y ≡ first_gate x
  pub back : GivesSame x y

-- no batch is open, nothing is pending, and the heap region is the heap
pub record Closes (f : Frame) (x y : List ℕ) (left : List ℕ → Type 0) : Type 0 where
  pub rest : IsAtRest f y left
  pub heap : heap_of f y ≡ heap_of f x
  pub gives : GivesHeap (heap_of f x) y

-- a disk of these bytes has the head of these regions, and room for them
pub record IsFramed (x : List ℕ) (f : Frame) : Type 0 where
  pub limits : IsInLimits f
  pub fits : disk_bytes f ≤ length x
  pub head : frame_of (part 0 LINE x) ≡ Some f

-- nothing is pending, or all that is pending is logged
abbrev pub MayPutBack : Frame → List ℕ → (List ℕ → Type 0) → Type 0
MayPutBack f x left = Only x left ⊎ IsLogged f x left

-- opening gives no heap of these regions: where the head tells of them, it gives none
abbrev pub GivesNone : Frame → List ℕ → Type 0
GivesNone f x = frame_of (part 0 LINE x) ≡ Some f → put_back_of x ≡ None

-- so many lines are put back and the first gate is closed, and no other byte changes: the heap region is the heap
-- that opening gave, no batch is open, and the regions are the same
pub record PutsBack (f : Frame) (count : ℕ) (x y : List ℕ) : Type 0 where
  pub records : List Record
  pub logs : Logs f x records
  pub lines : count ≡ length records
  pub written : y ≡ overwrite LINE (0 ∷ []) (with_records f records x)
  pub gives : GivesHeap (heap_of f y) x
  pub regions : HasRegions f y
  pub gate : first_gate y ≡ 0

-- the disk is as long as it was, and tells what a crash may leave if it did
pub record KeepsDisk {D : Type 0} (bytes : D → List ℕ) (tells_crashes : D → Bool) (old new : D) : Type 0 where
  pub size : length (bytes new) ≡ length (bytes old)
  pub tells : tells_crashes new ≡ tells_crashes old

-- where the log region and the heap region lie on the disk
abbrev pub regions_of : Frame → Range
regions_of f = range LINE (LINE * (f.log_lines + f.heap_lines))

-- no byte outside both regions changes: the head and what lies behind the heap region stay
abbrev pub KeepsOutside : Frame → List ℕ → List ℕ → Type 0
KeepsOutside f x y = Agrees (regions_of f ∷ []) x y

-- no byte outside the regions of which the head tells changes, and none at all where it tells of none
pub record KeepsRest (x y : List ℕ) : Type 0 where
  pub outside : (f : Frame) → frame_of (part 0 LINE x) ≡ Some f → KeepsOutside f x y
  pub headless : frame_of (part 0 LINE x) ≡ None → y ≡ x
