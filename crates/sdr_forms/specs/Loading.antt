-- What `load` answers: by status, what was run and printed, and what is left of the disk.
use Rattle.std.specs.Prelude.{◌≡◌, ℕ, Bool, List, [], ◌⊎◌, Some, codes, true, false, ⊤}
use Rattle.std.specs.Io.KnownBytes.{Appends}
use Rattle.run_load.specs.Loading.{RunsRounds, SumsUp, load_daemons}
use Rattle.run_load.specs.SummaryText.{summary_text}
use Rattle.run_load.specs.declared.loading.LoadEnd.{LoadEnd}
use Rattle.run_load.specs.declared.loading.LoadEnd.TheVariants as ends
use Rattle.run_load.specs.declared.summary.Summary.{Summary}
use Rattle.sdr_base.specs.Causes.{Rose}
use Rattle.sdr_base.specs.Pools.{Pools}
use Rattle.sdr_base.specs.Written.{AppendsPart}
use Rattle.sdr_base.specs.declared.media.Media.{Ghosts as MediaGhosts}
use Rattle.sdr_disk.specs.declared.disk.Disk.{Ghosts as DiskGhosts}
use Rattle.sdr_log.specs.Log.{put_back_of}
use Rattle.sdr_machine.specs.Crash.{is_sound}
use Rattle.sdr_machine.specs.Ground.{State}
use Rattle.sdr_model.specs.World.{World}
use Rattle.sdr_model.specs.declared.journal.Entry.{Entry}
use Rattle.sdr_run.specs.Replaying.{IsNotRun, RanOn}
use Rattle.sdr_forms.specs.Answers.{Seen, Wrote, change_of}
use Rattle.sdr_forms.specs.Shutting.{line_shut, status_shut}
use Rattle.sdr_forms.specs.declared.status.TheConstants.{DONE, OUTPUT_FAULT, DISK_FAULT, NOT_FORMATTED, DAMAGED, NO_MEMORY}
use Rattle.sdr_stands.specs.Standing.{StandsForWhole}
use Rattle.sdr_station.specs.declared.error.OpenError.{OpenError}

-- what is told of a load of so many rounds, by how it ended: its summary, or a last line, or nothing
abbrev pub TellsLoad : ℕ → LoadEnd → ℕ → Seen → Seen → Type 0
TellsLoad rounds (ends.Summed summary) status sink sink' =
    ((status ≡ DONE) × Appends sink.bytes sink'.bytes (summary_text rounds summary))
    ⊎ ((status ≡ OUTPUT_FAULT) × Rose sink.faults sink'.faults × AppendsPart sink.bytes sink'.bytes (summary_text rounds summary))
TellsLoad rounds ends.Starved status sink sink' = (status ≡ NO_MEMORY) × Wrote sink sink' (codes "no memory\n")
TellsLoad rounds ends.Failed status sink sink' = (status ≡ DISK_FAULT) × (sink' ≡ sink)
TellsLoad rounds ends.Unread status sink sink' = (status ≡ DISK_FAULT) × (sink' ≡ sink)

-- A load of so many rounds was run on the heap of the disk with these media, and memory was wanting in it or not. P tells of the state that it
-- began with.
pub record HadLoad {D M : Type 0} (d : DiskGhosts D) (m : MediaGhosts M) (rounds : ℕ) (disk disk' : D) (files files' : M) (journal : List Entry)
    (starved : Bool) (P : State → Type 0) : Type 0 where
  pub ran : RanOn d m (load_daemons rounds) disk disk' files journal
      (λ first. RunsRounds (change_of m files files') first rounds journal starved × P first)

-- A load was run for which memory sufficed, and the disk failed in no entry. P tells of the text of its summary, which is that of the journal and of
-- the state that stands behind all of it.
pub record IsWholeLoad {D M : Type 0} (d : DiskGhosts D) (m : MediaGhosts M) (rounds : ℕ) (disk disk' : D) (files files' : M) (journal : List Entry)
    (P : List ℕ → Type 0) : Type 0 where
  pub sound : is_sound journal ≡ true
  pub had : HadLoad d m rounds disk disk' files files' journal false
      (λ first. SumsUp (m.told files) (load_daemons rounds) first journal (λ (summary : Summary). P (summary_text rounds summary)))

-- No load was run on the disk, for a reason that the last line tells. There is no entry, and media weren't read.
pub record WasUnloaded {D M : Type 0} (d : DiskGhosts D) (disk disk' : D) (files files' : M) (journal : List Entry) (sink sink' : Seen)
    (why : OpenError) : Type 0 where
  pub not_run : IsNotRun d disk disk' why
  pub unread : files' ≡ files
  pub none : journal ≡ []
  pub written : Wrote sink sink' (line_shut why)

-- what a load came to, which its status tells
pub data LoadComesTo {D M : Type 0} (d : DiskGhosts D) (m : MediaGhosts M) (rounds status : ℕ) (disk disk' : D) (files files' : M)
    (journal : List Entry) (sink sink' : Seen) : Type 0 where
  -- memory sufficed, the disk failed in no entry, and the summary was written
  done : status ≡ DONE → IsWholeLoad d m rounds disk disk' files files' journal (Appends sink.bytes sink'.bytes)
      → LoadComesTo d m rounds status disk disk' files files' journal sink sink'
  -- the same, but the output failed
  unwritten : status ≡ OUTPUT_FAULT → Rose sink.faults sink'.faults
      → IsWholeLoad d m rounds disk disk' files files' journal (AppendsPart sink.bytes sink'.bytes)
      → LoadComesTo d m rounds status disk disk' files files' journal sink sink'
  -- the disk failed in an entry, and nothing was written
  failed : status ≡ DISK_FAULT → is_sound journal ≡ false → (starved : Bool) → HadLoad d m rounds disk disk' files files' journal starved (λ first. ⊤)
      → sink' ≡ sink → LoadComesTo d m rounds status disk disk' files files' journal sink sink'
  -- memory sufficed, the disk failed in no entry but as the list was read, and nothing was written
  unread : status ≡ DISK_FAULT → is_sound journal ≡ true → Rose (d.faults disk) (d.faults disk')
      → HadLoad d m rounds disk disk' files files' journal false (λ first. ⊤)
      → sink' ≡ sink → LoadComesTo d m rounds status disk disk' files files' journal sink sink'
  -- memory was wanting in the run, the disk failed in no entry, and the last line tells so
  starved : status ≡ NO_MEMORY → is_sound journal ≡ true → HadLoad d m rounds disk disk' files files' journal true (λ first. ⊤)
      → Wrote sink sink' (codes "no memory\n") → LoadComesTo d m rounds status disk disk' files files' journal sink sink'
  -- nothing was run: the disk gives no heap, or one that is damaged, or it failed, or memory was wanting
  shut : (why : OpenError) → status ≡ status_shut why → WasUnloaded d disk disk' files files' journal sink sink' why
      → LoadComesTo d m rounds status disk disk' files files' journal sink sink'

-- What a load of so many rounds answers. It is run to its end on the heap of the disk, and summed up, unless there is no heap, a fault, or no
-- memory.
pub record AnswersLoad {D M : Type 0} (rounds : ℕ) (d : DiskGhosts D) (m : MediaGhosts M) (status : ℕ) (disk disk' : D) (files files' : M)
    (journal : List Entry) (sink sink' : Seen) : Type 0 where
  pub comes : LoadComesTo d m rounds status disk disk' files files' journal sink sink'
  pub complete :
      ¬ Rose sink.faults sink'.faults → ¬ Rose (d.faults disk) (d.faults disk')
      → (status ≡ DONE) ⊎ (status ≡ NOT_FORMATTED) ⊎ (status ≡ DAMAGED) ⊎ (status ≡ NO_MEMORY)
  -- each heap is taken for which a world stands
  pub taken :
      (heap : List ℕ) (w : World) (P : Pools) → put_back_of (d.bytes disk) ≡ Some heap → StandsForWhole heap w P
      → ¬ Rose sink.faults sink'.faults → ¬ Rose (d.faults disk) (d.faults disk')
      → (status ≡ DONE) ⊎ (status ≡ NO_MEMORY)
