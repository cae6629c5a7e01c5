-- A script that runs on the heap of a disk: how that was opened, and what the journal leaves of the disk.
use Rattle.std.specs.Prelude.{◌≡◌, ◌≤◌, ◌<◌, ℕ, List, Option, true, false, not, length}
use Rattle.sdr_base.specs.Causes.{Rose}
use Rattle.sdr_base.specs.Media.{Told}
use Rattle.sdr_base.specs.declared.media.Media.{Ghosts as MediaGhosts}
use Rattle.sdr_core.specs.CoreKept.{AreMadeBetween, RunStart}
use Rattle.sdr_disk.specs.Moments.{AtEach, Reads}
use Rattle.sdr_disk.specs.Pending.{IsSynced}
use Rattle.sdr_disk.specs.Tells.{IfTells}
use Rattle.sdr_disk.specs.declared.disk.Disk.{Ghosts as DiskGhosts}
use Rattle.sdr_core.specs.Caused.{media_change}
use Rattle.sdr_words.specs.Daemons.{daemons_of}
use Rattle.sdr_image.specs.Opening.{MayBeOpened}
use Rattle.sdr_machine.specs.Crash.{IsCrashSafe, OpensAfter, OpensTo, done_by, is_sound}
use Rattle.sdr_machine.specs.Ground.{State}
use Rattle.sdr_machine.specs.Legal.{IsAfter, IsLegal}
use Rattle.sdr_log.specs.Calls.{KeepsDisk, KeepsRest}
use Rattle.sdr_log.specs.Log.{first_gate}
use Rattle.sdr_log.specs.Logged.{GivesSame}
use Rattle.sdr_model.specs.declared.journal.Entry.{Entry}
use Rattle.sdr_model.specs.declared.script.ScriptStep.{ScriptStep}
use Rattle.sdr_run.specs.Handed.{HandedDisk}
use Rattle.sdr_run.specs.Playing.{Output}
use Rattle.sdr_run.specs.Recording.{RunsScript}
use Rattle.sdr_run.specs.declared.recording.Ran.{Ran}
use Rattle.sdr_station.specs.Grounded.{Grounded, OpensAs}
use Rattle.sdr_station.specs.Opening.{ExplainsOpen, IsOpen, LeavesBytes, MayBeAgain, first_on}
use Rattle.sdr_station.specs.declared.error.OpenError.{OpenError}

-- nothing is pending on a disk that is handed in, or in lines alone that its open batches name, where it tells what a crash may leave
abbrev pub IsSettled : {D : Type 0} → DiskGhosts D → D → Type 0
IsSettled d disk = IfTells (d.tells_crashes disk) (MayBeOpened (d.bytes disk) (d.may_hold_after disk (d.moment disk)))

-- a run of the script's daemons begins with the world on the heap that was opened, as its disk was handed in
abbrev pub begins_on : {D M : Type 0} → MediaGhosts M → HandedDisk → List ScriptStep → Grounded D M → RunStart
begins_on m was script g =
    record {
      told = m.told g.media;
      daemons = daemons_of script;
      first = first_on g;
      start = was.moment;
      faults = was.faults;
      lapses = record { faults = m.faults g.media; short = m.short g.media };
    }

-- what a schedule has come to, on this
abbrev pub with_base : {S T : Type 0} → Ran S → T → Ran T
with_base ran base =
    record { journal = ran.journal; base = base; failed = ran.failed; starved = ran.starved; printing = ran.printing }

-- What a run with this journal, from the world on a heap and where media tell this, leaves of the disk that was handed in. What a crash
-- leaves is told where the disk tells it and was settled.
pub record LeavesJournal {D : Type 0} (d : DiskGhosts D) (told : Option Told) (daemons : List ℕ) (first : State) (journal : List Entry)
    (old new : D) : Type 0 where
  -- the disk is as long, and tells what a crash may leave if it did
  pub keeps : KeepsDisk d.bytes d.tells_crashes old new
  -- no byte outside the regions of which its head tells has changed
  pub outside : KeepsRest (d.bytes old) (d.bytes new)
  -- at each moment of the call a crash leaves the state after some first entries, and all that are done
  pub any_moment : IsSettled d old → IfTells (d.tells_crashes old) (
      IsCrashSafe d.moment d.may_hold_after (OpensAfter OpensAs told daemons first journal) (d.moment old) journal new)
  -- each entry was begun since the begin of the call and done by its return, also where the disk failed in it
  pub in_time : AreMadeBetween (d.moment old) (d.moment new) journal
  -- none was done before the call
  pub early : (m : ℕ) → m < d.moment old → done_by m journal ≡ 0
  -- unless the disk failed in an entry, all of them are done by now, the disk gives the state after all, and no batch is open
  pub all : is_sound journal ≡ true → (m : ℕ) → d.moment new ≤ m → done_by m journal ≡ length journal
  pub now : is_sound journal ≡ true
      → OpensTo OpensAs (λ s. IsAfter told daemons first journal (length journal) s) (d.bytes new)
  pub closed : is_sound journal ≡ true → first_gate (d.bytes new) ≡ 0
  -- nor is then anything pending, and a crash now leaves that state too
  pub settled : IsSettled d old → is_sound journal ≡ true → IsSettled d new
  pub synced : IsSettled d old → is_sound journal ≡ true → IsSynced d.bytes d.tells_crashes d.moment d.may_hold_after new
  pub durable : IsSettled d old → is_sound journal ≡ true → IfTells (d.tells_crashes old) (
      (image : List ℕ) → d.may_hold_after new (d.moment new) image
      → OpensTo OpensAs (λ s. IsAfter told daemons first journal (length journal) s) image)
  -- the disk failed in an entry only where its count of faults rose, and the count has not fallen
  pub later : d.faults old ≤ d.faults new
  pub cause : is_sound journal ≡ false → Rose (d.faults old) (d.faults new)

-- The heap of the disk was opened with these media, and by a run of these daemons on it this journal came to be. P tells of the run, from the
-- state that it began with.
pub record RanOn {D M : Type 0} (d : DiskGhosts D) (m : MediaGhosts M) (daemons : List ℕ) (disk disk' : D) (files : M) (journal : List Entry)
    (P : State → Type 0) : Type 0 where
  -- what was opened
  pub ground : Grounded D M
  pub with_media : ground.media ≡ files
  pub open_so : IsOpen d.bytes d.tells_crashes d.moment d.may_hold_after disk ground
  -- what was run, from the world on it
  pub runs : P (first_on ground)
  -- the journal is legal
  pub legal : IsLegal (m.told files) daemons (first_on ground) journal
  -- what a crash leaves, at each moment of the call and behind it, is told by the journal
  pub leaves : LeavesJournal d (m.told files) daemons (first_on ground) journal disk disk'

-- The schedule was run on the heap of the disk: the answers that were printed and the journal are those of the run of the script.
pub record ReplaysOn {D M : Type 0} (d : DiskGhosts D) (m : MediaGhosts M) (disk : D) (files : M) (script : List ScriptStep) (out out' : Output)
    (ran : Ran (D × M)) : Type 0 where
  pub on_heap : RanOn d m (daemons_of script) disk ran.base.0 files ran.journal
      (λ first. RunsScript (media_change m.told m.faults m.short files ran.base.1) first script out out' ran)
  -- the disk failed just where it did in an entry
  pub failed : ran.failed ≡ not (is_sound ran.journal)

-- Nothing was run on the disk, for this reason.
pub record IsNotRun {D : Type 0} (d : DiskGhosts D) (disk disk' : D) (cause : OpenError) : Type 0 where
  -- why its heap wasn't opened, or that there was no memory for a run
  pub why : ExplainsOpen (d.bytes disk) (d.faults disk) (d.faults disk') cause
  -- the disk is as long, and tells what a crash may leave if it did; its bytes are the same, where it gives no heap; and the open
  -- batches are put back, where the heap is damaged
  pub keeps : KeepsDisk d.bytes d.tells_crashes disk disk'
  pub bytes : LeavesBytes (d.bytes disk) (d.bytes disk') cause
  -- no byte outside the regions of which its head tells has changed, and none at all where it tells of none
  pub outside : KeepsRest (d.bytes disk) (d.bytes disk')
  -- where no batch is open on it, it was only read
  pub quiet : first_gate (d.bytes disk) ≡ 0 → Reads d.bytes d.tells_crashes d.moment d.may_hold_after disk disk'
  -- where the disk was settled, it may be handed in again, unless it failed as the first gate was being closed; and where the heap is
  -- damaged nothing is pending
  pub again : MayBeAgain d.bytes d.tells_crashes d.moment d.may_hold_after disk disk' cause
  -- where the disk was settled, at each moment of the call a crash leaves what gives the same heap, or none as before
  pub any_moment : IsSettled d disk → IfTells (d.tells_crashes disk)
      (AtEach d.moment d.may_hold_after disk disk' (GivesSame (d.bytes disk)))
  -- no count of faults has fallen
  pub later : d.faults disk ≤ d.faults disk'
