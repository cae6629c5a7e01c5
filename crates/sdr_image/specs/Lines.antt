-- Where the lines of an opened disk stand while a transaction is open, and what stands on the disk then.
use Rattle.std.specs.Prelude.{◌≡◌, ◌≤◌, ◌<◌, ◌+◌, ◌-◌, ◌*◌, ℕ, Bool, true, false, List, [], length, map, get_or, Contains, unwrap_or, replicate, IsPermutation, ◌++◌}
use Rattle.std.specs.List.{range_with_len}
use Rattle.sdr_base.specs.Cells.{lines_of}
use Rattle.sdr_base.specs.Parts.{part}
use Rattle.sdr_base.specs.declared.line.TheConstants.{LINE}
use Rattle.sdr_disk.specs.Moments.{AtEach, Reads}
use Rattle.sdr_disk.specs.Tells.{IfTells}
use Rattle.sdr_log.specs.Calls.{AreBelow, KeepsDisk, KeepsOutside}
use Rattle.sdr_log.specs.Frame.{room_of}
use Rattle.sdr_log.specs.Log.{AreLines, first_gate, heap_of, names_line, put_back_of, put_records}
use Rattle.sdr_log.specs.Logged.{GivesHeap, HasRegions}
use Rattle.sdr_log.specs.Spilled.{Just, KeepsBegin, MaySpill}
use Rattle.sdr_log.specs.declared.frame.Frame.{Frame}
use Rattle.sdr_log.specs.declared.record.Record.{Record}
use Rattle.sdr_image.specs.Buffer.{Changes}
use Rattle.sdr_image.specs.Marks.{is_buffered, is_clean, is_logged, stand_at, touched_in}
use Rattle.sdr_image.specs.declared.lines.Lines.{Lines}
use Rattle.sdr_image.specs.declared.marks.Stand.{Stand}
use Rattle.sdr_image.specs.declared.marks.Stand.TheVariants.{Buffered, Clean}

-- the numbers of the lines of these records
abbrev pub lines_named : List Record → List ℕ
lines_named records = map (λ r. r.line) records

-- the heap that opening a disk of these bytes gives
abbrev pub begun_of : List ℕ → List ℕ
begun_of x = unwrap_or (put_back_of x) []

-- the bytes now: the heap region of the disk, with the lines of the buffer
abbrev pub now_of : Frame → Lines → List ℕ → List ℕ
now_of f lines x = put_records lines.buffer.news (heap_of f x)

-- the line of a heap region and its bytes there
abbrev pub IsLineOf : Frame → List ℕ → ℕ × List ℕ → Type 0
IsLineOf f x e = (e.0 < f.heap_lines) × (e.1 ≡ part (LINE * e.0) LINE (heap_of f x))

-- the marks tell where the lines stand that open batches name, and those of the buffer
pub record AreMarked (records : List Record) (changes : Changes) (marks : List Stand) : Type 0 where
  pub logged : (line : ℕ) → names_line records line ≡ is_logged (stand_at marks line)
  pub buffered : (line : ℕ) → names_line changes.olds line ≡ is_buffered (stand_at marks line)
  pub placed : (line place : ℕ) → stand_at marks line ≡ Buffered place →
      (place < length changes.news) × ((d : Record) → (get_or changes.news place d).line ≡ line)

-- the cached lines are clean, and have the bytes of the heap region
abbrev pub AreClean : Frame → List ℕ → List Stand → List (ℕ × List ℕ) → Type 0
AreClean f x marks cache =
    (e : ℕ × List ℕ) → Contains cache e → IsLineOf f x e × (is_clean (stand_at marks e.0) ≡ true)

-- what is kept of the lines of an image, whether its disk has failed or not
pub record IsLines (f : Frame) (lines : Lines) : Type 0 where
  pub long : length lines.marks ≡ f.heap_lines
  pub batch : length lines.batch.items ≡ 4357
  pub below : AreBelow f.heap_lines lines.buffer.news
  pub whole : AreLines lines.buffer.news
  pub paired : length lines.buffer.news ≡ length lines.buffer.olds
  pub counted : lines.logged + length lines.buffer.olds ≡ length (touched_in lines.marks)

-- What stands on a disk of these bytes, with these bytes at begin: those lines that open batches name have their old bytes
-- there, and those of the buffer have them in memory.
pub record Stands (f : Frame) (begun : List ℕ) (lines : Lines) (x : List ℕ) : Type 0 where
  pub records : List Record
  pub may : MaySpill f begun lines.place records lines.buffer.olds x (Just x)
  pub same : lines_named lines.buffer.news ≡ lines_named lines.buffer.olds
  pub marked : AreMarked records lines.buffer lines.marks
  pub room : lines.place ≤ 73 * length records
  pub many : lines.logged ≡ length records
  pub few : length (touched_in lines.marks) ≤ room_of f
  pub permuted : IsPermutation (lines_named (records ++ lines.buffer.olds)) (touched_in lines.marks)
  pub clean : AreClean f x lines.marks lines.cache

-- all that is pending on a disk of these bytes is logged, and opening it gives these bytes
pub record Keeps (f : Frame) (begun x : List ℕ) (left : List ℕ → Type 0) : Type 0 where
  pub place : ℕ
  pub records : List Record
  pub keeps : KeepsBegin f begun place records x left

-- the disk has these regions, no batch is open, and this heap is in its heap region
pub record HasBytes (f : Frame) (bytes disk : List ℕ) : Type 0 where
  pub regions : HasRegions f disk
  pub gate : first_gate disk ≡ 0
  pub heap : heap_of f disk ≡ bytes

-- the lines of a disk with these regions that was just opened, with all their memory
pub record IsFresh (f : Frame) (lines : Lines) : Type 0 where
  pub place : lines.place ≡ 0
  pub logged : lines.logged ≡ 0
  pub buffer : lines.buffer ≡ record { olds = []; news = [] }
  pub marks : lines.marks ≡ replicate f.heap_lines Clean
  pub batch : length lines.batch.items ≡ 4357
  pub cache : lines.cache ≡ []

-- the buffer names lines that there are, and where none is logged, each that is touched
pub record AreAllMarked (lines : Lines) : Type 0 where
  pub below : (line : ℕ) → names_line lines.buffer.olds line ≡ true → line < length lines.marks
  pub named : lines.logged ≡ 0 → (line : ℕ) → is_clean (stand_at lines.marks line) ≡ false →
      names_line lines.buffer.olds line ≡ true

-- no line is touched any more, and the cache is the same
abbrev pub IsUntouched : Lines → Lines → Type 0
IsUntouched old new = new ≡ record old {
  place = 0;
  logged = 0;
  buffer = record { olds = []; news = [] };
  marks = replicate (length old.marks) Clean;
}

-- no line is touched, and the disk has these bytes, at begin and now
pub record IsRested (f : Frame) (bytes : List ℕ) (lines : Lines) (x : List ℕ) : Type 0 where
  pub stands : Stands f bytes lines x
  pub untouched : touched_in lines.marks ≡ []
  pub has : HasBytes f bytes x
  pub now : now_of f lines x ≡ bytes

-- the same lines are touched
pub record MarksSame (old new : List Stand) : Type 0 where
  pub long : length new ≡ length old
  pub clean : (line : ℕ) → is_clean (stand_at new line) ≡ is_clean (stand_at old line)
  pub touched : touched_in new ≡ touched_in old

-- what each step of a transaction keeps, also one at which the disk failed
pub record Steps {D : Type 0} (bytes : D → List ℕ) (tells : D → Bool) (moment : D → ℕ)
    (may_hold_after : D → ℕ → List ℕ → Type 0) (f : Frame) (disk disk' : D) (old new : Lines) : Type 0 where
  pub keeps : KeepsDisk bytes tells disk disk'
  pub inside : KeepsOutside f (bytes disk) (bytes disk')
  pub forward : moment disk ≤ moment disk'
  pub lines : IsLines f new
  pub kept : length (touched_in old.marks) ≤ length (touched_in new.marks)
  pub reads : touched_in new.marks ≡ [] → Reads bytes tells moment may_hold_after disk disk'
  pub any_moment : IfTells (tells disk)
      (Keeps f (begun_of (bytes disk)) (bytes disk) (may_hold_after disk (moment disk)) →
      AtEach moment may_hold_after disk disk' (GivesHeap (begun_of (bytes disk))))

-- what one that succeeds leaves: the bytes at begin are the same, and those now are these
pub record Leaves {D : Type 0} (bytes : D → List ℕ) (tells : D → Bool) (moment : D → ℕ)
    (may_hold_after : D → ℕ → List ℕ → Type 0) (f : Frame) (disk disk' : D) (new : Lines) (now : List ℕ) : Type 0 where
  pub stands : Stands f (begun_of (bytes disk)) new (bytes disk')
  pub bytes_now : now_of f new (bytes disk') ≡ now
  pub rests : IfTells (tells disk)
      (Keeps f (begun_of (bytes disk)) (bytes disk) (may_hold_after disk (moment disk)) →
      Keeps f (begun_of (bytes disk)) (bytes disk') (may_hold_after disk' (moment disk')))

-- from the first to the one before the end, these are the lines that hold a byte of so many from a place on
pub record IsSpan (place count first end : ℕ) : Type 0 where
  pub lines : range_with_len first (end - first) ≡ lines_of place count
  pub order : first ≤ end
  pub begins : LINE * first ≤ place
  pub inside : place < LINE * first + LINE
  pub ends : LINE * end < place + count + LINE
  pub covers : 0 < count → place + count ≤ LINE * end
