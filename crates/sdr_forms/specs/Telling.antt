-- What is told of a script that was run on the heap of a disk, or not.
use Rattle.std.specs.Prelude.{◌≡◌, ◌≤◌, ◌+◌, ℕ, Bool, IfSome, List, [], ◌⊎◌, codes, length, not, true, false}
use Rattle.sdr_base.specs.declared.media.Media.{Ghosts as MediaGhosts}
use Rattle.sdr_base.specs.declared.sink.Sink.{Ghosts as SinkGhosts}
use Rattle.sdr_base.specs.declared.source.Source.{Ghosts as SourceGhosts}
use Rattle.sdr_core.specs.Caused.{HaveFailed}
use Rattle.sdr_disk.specs.declared.disk.Disk.{Ghosts as DiskGhosts}
use Rattle.sdr_log.specs.Calls.{KeepsDisk}
use Rattle.sdr_words.specs.Daemons.{daemons_of}
use Rattle.sdr_machine.specs.Crash.{is_sound}
use Rattle.sdr_model.specs.declared.script.ScriptStep.{ScriptStep}
use Rattle.sdr_run.specs.Playing.{IsPrinted}
use Rattle.sdr_run.specs.Replaying.{IsNotRun, RanOn}
use Rattle.sdr_forms.specs.Answers.{Seen, Wrote, change_of, output_of, seen}
use Rattle.sdr_forms.specs.OnHeap.{AnswersOnHeap, HowRun}
use Rattle.sdr_forms.specs.Shutting.{line_shut, status_shut}
use Rattle.sdr_forms.specs.declared.outcome.RunOutcome.{RunOutcome}
use Rattle.sdr_forms.specs.declared.status.TheConstants.{DONE, OUTPUT_FAULT, DISK_FAULT, NO_MEMORY}
use Rattle.sdr_station.specs.declared.error.OpenError.{OpenError}

-- what is told behind the text of a run, by what stopped it: whether the disk failed, memory was wanting, the output failed
abbrev pub Telling : (failed starved printing : Bool) → ℕ → Seen → Seen → Type 0
Telling true starved printing status mid now = (status ≡ DISK_FAULT) × (now ≡ mid)
Telling false true true status mid now = (status ≡ NO_MEMORY) × Wrote mid now (codes "no memory\n")
Telling false true false status mid now = (status ≡ NO_MEMORY) × (now ≡ mid)
Telling false false true status mid now = (status ≡ DONE) × (now ≡ mid)
Telling false false false status mid now = (status ≡ OUTPUT_FAULT) × (now ≡ mid)

-- A script was not run on the disk, for a reason that the status and the last line tell.
pub record WasNotRun {D M : Type 0} (d : DiskGhosts D) (disk : D) (files : M) (sink sink' : Seen) (r : RunOutcome D M) : Type 0 where
  pub why : OpenError
  pub not_run : IsNotRun d disk r.disk why
  pub unread : r.media ≡ files
  pub none : r.journal ≡ []
  pub status : r.status ≡ status_shut why
  pub written : Wrote sink sink' (line_shut why)

-- A script was run on the heap of the disk, its text was printed, and what stopped it was told behind that.
pub record WasRun {D M : Type 0} (d : DiskGhosts D) (m : MediaGhosts M) (R : HowRun) (disk : D) (files : M) (script : List ScriptStep)
    (sink sink' : Seen) (r : RunOutcome D M) : Type 0 where
  pub failed : Bool
  pub starved : Bool
  pub printing : Bool
  pub mid : Seen
  pub ran : RanOn d m (daemons_of script) disk r.disk files r.journal
      (λ first. R (change_of m files r.media) first script r.journal starved (IsPrinted printing (output_of sink) (output_of mid)))
  pub failed_is : failed ≡ not (is_sound r.journal)
  pub later : sink.faults ≤ mid.faults
  pub tells : Telling failed starved printing r.status mid sink'

-- A script was run on the heap of the disk, or not.
abbrev pub RunsOrNot : {D M : Type 0} → DiskGhosts D → MediaGhosts M → HowRun → D → M → List ScriptStep → Seen → Seen → RunOutcome D M → Type 0
RunsOrNot d m R disk files script sink sink' r = WasNotRun d disk files sink sink' r ⊎ WasRun d m R disk files script sink sink' r

-- What is answered to an input whose script is run so on the heap of a disk: by what it came to. No count of faults falls, the input is read so
-- often at most, the disk keeps its length and tells what a crash may leave as before, and media tell the same.
pub record AnswersInput {D M S K : Type 0} (d : DiskGhosts D) (m : MediaGhosts M) (s : SourceGhosts S) (k : SinkGhosts K) (R : HowRun)
    (disk : D) (files : M) (input input' : S) (output output' : K) (result : RunOutcome D M) : Type 0 where
  pub answers : AnswersOnHeap d m R result.status (seen s.left s.faults input) (seen s.left s.faults input') disk result.disk files result.media
      result.journal (seen k.taken k.faults output) (seen k.taken k.faults output')
  pub later : (s.faults input ≤ s.faults input') × (k.faults output ≤ k.faults output') × (d.faults disk ≤ d.faults result.disk)
  pub reads : s.reads input' ≤ s.reads input + 1048577
  pub each : IfSome (s.left input) (λ bytes. s.reads input' ≤ s.reads input + length bytes + 1)
  pub keeps : KeepsDisk d.bytes d.tells_crashes disk result.disk
  pub media : HaveFailed 0 0 (change_of m files result.media)
