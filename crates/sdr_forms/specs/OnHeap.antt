-- What the forms answer that run a script on the heap of the disk: by status, what was read, run and printed, and what is left of the disk.
use Rattle.std.specs.Prelude.{◌≡◌, ℕ, Bool, List, [], ◌++◌, ◌⊎◌, Option, Some, IsOk, IsErr, codes, true, false}
use Rattle.std.specs.Io.KnownBytes.{Appends, IsAtEnd}
use Rattle.sdr_stands.specs.Standing.{StandsForWhole}
use Rattle.sdr_base.specs.Causes.{Rose}
use Rattle.sdr_base.specs.Pools.{Pools}
use Rattle.sdr_base.specs.Written.{AppendsPart}
use Rattle.sdr_base.specs.declared.media.Media.{Ghosts as MediaGhosts}
use Rattle.sdr_disk.specs.declared.disk.Disk.{Ghosts as DiskGhosts}
use Rattle.sdr_core.specs.Caused.{MediaChange}
use Rattle.sdr_words.specs.Daemons.{daemons_of}
use Rattle.sdr_machine.specs.Crash.{is_sound}
use Rattle.sdr_machine.specs.Ground.{State}
use Rattle.sdr_log.specs.Log.{put_back_of}
use Rattle.sdr_model.specs.World.{World}
use Rattle.sdr_model.specs.declared.journal.Entry.{Entry}
use Rattle.sdr_model.specs.declared.script.ScriptStep.{ScriptStep}
use Rattle.sdr_run.specs.Replaying.{IsNotRun, RanOn}
use Rattle.sdr_forms.specs.Answers.{Seen, Wrote, change_of}
use Rattle.sdr_forms.specs.Shutting.{line_shut, status_shut}
use Rattle.sdr_forms.specs.Still.{HadScript, IsRefused}
use Rattle.sdr_forms.specs.declared.status.TheConstants.{DONE, INPUT_FAULT, OUTPUT_FAULT, DISK_FAULT, NOT_FORMATTED, DAMAGED, REFUSED_LINE, NO_MEMORY}
use Rattle.sdr_station.specs.declared.error.OpenError.{OpenError}
use Rattle.sdr_words.specs.Script.{input_script}

-- What is said of a run on a heap: by how media changed, its first state, the script, the journal, whether memory was wanting in it, and a
-- test of its text.
abbrev pub HowRun : Type 1
HowRun = MediaChange → State → List ScriptStep → List Entry → Bool → (List ℕ → Type 0) → Type 0

-- The script that the source's input spelled was not run on the disk, for this reason, and the last line tells it. There is no entry, and
-- media weren't read.
pub record WasShut {D M : Type 0} (d : DiskGhosts D) (left : Option (List ℕ)) (disk disk' : D) (files files' : M) (journal : List Entry)
    (sink sink' : Seen) (why : OpenError) : Type 0 where
  pub script : List ScriptStep
  pub input : HadScript left script
  pub not_run : IsNotRun d disk disk' why
  pub unread : files' ≡ files
  pub none : journal ≡ []
  pub written : Wrote sink sink' (line_shut why)

-- The script that the source's input spelled was run so on the heap of the disk with these media, and memory was wanting in the run or not.
-- P tells of the text of the run.
pub record HadOnHeap {D M : Type 0} (d : DiskGhosts D) (m : MediaGhosts M) (R : HowRun) (left : Option (List ℕ)) (disk disk' : D) (files files' : M)
    (journal : List Entry) (starved : Bool) (P : List ℕ → Type 0) : Type 0 where
  pub script : List ScriptStep
  pub input : HadScript left script
  pub ran : RanOn d m (daemons_of script) disk disk' files journal (λ first. R (change_of m files files') first script journal starved P)

-- A script was run for which memory sufficed, the disk failed in no entry, and all of the input was read. P tells of the text.
pub record IsWholeRun {D M : Type 0} (d : DiskGhosts D) (m : MediaGhosts M) (R : HowRun) (left left' : Option (List ℕ)) (disk disk' : D)
    (files files' : M) (journal : List Entry) (P : List ℕ → Type 0) : Type 0 where
  pub read : IsAtEnd left'
  pub sound : is_sound journal ≡ true
  pub ran : HadOnHeap d m R left disk disk' files files' journal false P

-- A script was run in which the disk failed in an entry, and memory was wanting too or not.
pub record HasFailed {D M : Type 0} (d : DiskGhosts D) (m : MediaGhosts M) (R : HowRun) (left : Option (List ℕ)) (disk disk' : D) (files files' : M)
    (journal : List Entry) (P : List ℕ → Type 0) : Type 0 where
  pub starved : Bool
  pub failed : is_sound journal ≡ false
  pub ran : HadOnHeap d m R left disk disk' files files' journal starved P

-- A script was run in which memory was wanting, and the disk failed in no entry.
pub record HasStarved {D M : Type 0} (d : DiskGhosts D) (m : MediaGhosts M) (R : HowRun) (left : Option (List ℕ)) (disk disk' : D) (files files' : M)
    (journal : List Entry) (P : List ℕ → Type 0) : Type 0 where
  pub sound : is_sound journal ≡ true
  pub ran : HadOnHeap d m R left disk disk' files files' journal true P

-- the disk and media are as they were, and there is no entry
abbrev pub IsUntouched : {D M : Type 0} → D → D → M → M → List Entry → Type 0
IsUntouched disk disk' files files' journal = (disk' ≡ disk) × (files' ≡ files) × (journal ≡ [])

-- what the form came to, which its status tells
pub data ComesTo {D M : Type 0} (d : DiskGhosts D) (m : MediaGhosts M) (R : HowRun) (status : ℕ) (source source' : Seen) (disk disk' : D)
    (files files' : M) (journal : List Entry) (sink sink' : Seen) : Type 0 where
  -- memory sufficed, the disk failed in no entry, and the text was written
  done : status ≡ DONE → IsWholeRun d m R source.bytes source'.bytes disk disk' files files' journal (Appends sink.bytes sink'.bytes)
      → ComesTo d m R status source source' disk disk' files files' journal sink sink'
  -- the same, but the output failed
  unwritten : status ≡ OUTPUT_FAULT → Rose sink.faults sink'.faults
      → IsWholeRun d m R source.bytes source'.bytes disk disk' files files' journal (AppendsPart sink.bytes sink'.bytes)
      → ComesTo d m R status source source' disk disk' files files' journal sink sink'
  -- the disk failed in an entry
  failed : status ≡ DISK_FAULT → HasFailed d m R source.bytes disk disk' files files' journal (Wrote sink sink')
      → ComesTo d m R status source source' disk disk' files files' journal sink sink'
  -- memory was wanting in the run
  starved : status ≡ NO_MEMORY → HasStarved d m R source.bytes disk disk' files files' journal (λ text. Wrote sink sink' (text ++ codes "no memory\n"))
      → ComesTo d m R status source source' disk disk' files files' journal sink sink'
  -- no script was run: the disk gives no heap, or one that is damaged, or it failed, or memory was wanting
  shut : (why : OpenError) → status ≡ status_shut why → WasShut d source.bytes disk disk' files files' journal sink sink' why
      → ComesTo d m R status source source' disk disk' files files' journal sink sink'
  -- the input wasn't read: it failed, or one of its lines is refused, or memory was wanting
  unread : status ≡ INPUT_FAULT → Rose source.faults source'.faults → IsUntouched disk disk' files files' journal → Wrote sink sink' (codes "input fault\n")
      → ComesTo d m R status source source' disk disk' files files' journal sink sink'
  refused : status ≡ REFUSED_LINE → IsUntouched disk disk' files files' journal → IsRefused source.bytes sink.bytes sink'.bytes sink.faults sink'.faults
      → ComesTo d m R status source source' disk disk' files files' journal sink sink'
  unheld : status ≡ NO_MEMORY → IsUntouched disk disk' files files' journal → Wrote sink sink' (codes "no memory\n")
      → ComesTo d m R status source source' disk disk' files files' journal sink sink'

-- What a form answers that runs a script so on the heap of the disk. A script that is refused is not run. One that is accepted is run to its
-- end, or to leaves that say why not, unless there is no heap, a fault, or no memory.
pub record AnswersOnHeap {D M : Type 0} (d : DiskGhosts D) (m : MediaGhosts M) (R : HowRun) (status : ℕ) (source source' : Seen) (disk disk' : D)
    (files files' : M) (journal : List Entry) (sink sink' : Seen) : Type 0 where
  pub comes : ComesTo d m R status source source' disk disk' files files' journal sink sink'
  pub exact :
      (bytes : List ℕ) → source.bytes ≡ Some bytes → IsErr (input_script bytes)
      → IsUntouched disk disk' files files' journal × ((status ≡ INPUT_FAULT) ⊎ (status ≡ REFUSED_LINE) ⊎ (status ≡ NO_MEMORY))
  pub complete :
      (bytes : List ℕ) → source.bytes ≡ Some bytes → IsOk (input_script bytes)
      → ¬ Rose source.faults source'.faults → ¬ Rose sink.faults sink'.faults → ¬ Rose (d.faults disk) (d.faults disk')
      → (status ≡ DONE) ⊎ (status ≡ NOT_FORMATTED) ⊎ (status ≡ DAMAGED) ⊎ (status ≡ NO_MEMORY)
  -- each heap is taken for which a world stands
  pub taken :
      (bytes : List ℕ) → source.bytes ≡ Some bytes → IsOk (input_script bytes)
      → (heap : List ℕ) (w : World) (P : Pools) → put_back_of (d.bytes disk) ≡ Some heap → StandsForWhole heap w P
      → ¬ Rose source.faults source'.faults → ¬ Rose sink.faults sink'.faults → ¬ Rose (d.faults disk) (d.faults disk')
      → (status ≡ DONE) ⊎ (status ≡ NO_MEMORY)
