-- What the public calls answer to the words of a command line.
use Rattle.std.specs.Prelude.{◌≡◌, ◌≢◌, ◌≤◌, ◌+◌, ◌↔◌, ℕ, Bool, IfSome, List, [], Option, None, Some, codes, false, length}
use Rattle.std.specs.declared.alloc.Global.{Global}
use Rattle.std.specs.declared.rc.RcStr.{RcStr}
use Rattle.sdr_base.specs.declared.media.Media.{Ghosts as MediaGhosts}
use Rattle.sdr_base.specs.declared.sink.Sink.{Ghosts as SinkGhosts}
use Rattle.sdr_base.specs.declared.source.Source.{Ghosts as SourceGhosts}
use Rattle.sdr_disk.specs.Pending.{IsSynced}
use Rattle.sdr_disk.specs.declared.disk.Disk.{Ghosts as DiskGhosts}
use Rattle.sdr_log.specs.Calls.{KeepsDisk}
use Rattle.sdr_forms.specs.Answers.{AnswersDry, AnswersFormat, Wrote, seen}
use Rattle.sdr_forms.specs.Form.{OnFormat, form_of, is_live, is_load, live_form, opens_heap, still_form}
use Rattle.sdr_forms.specs.Inspecting.{AnswersInspect}
use Rattle.sdr_forms.specs.Loading.{AnswersLoad}
use Rattle.sdr_forms.specs.Recovering.{AnswersRecover}
use Rattle.sdr_forms.specs.Replaying.{AnswersReplay}
use Rattle.sdr_forms.specs.Running.{AnswersRun}
use Rattle.sdr_forms.specs.Formatting.{HasFormatted, LeavesDisk}
use Rattle.sdr_core.specs.Caused.{HaveFailed, media_change}
use Rattle.sdr_forms.specs.declared.form.Form.{Form}
use Rattle.sdr_forms.specs.declared.form.Form.TheVariants as forms
use Rattle.sdr_forms.specs.declared.outcome.RunOutcome.{RunOutcome}
use Rattle.sdr_forms.specs.declared.status.TheConstants.{USAGE}

-- What is answered to words of this form, or of none, given a disk and media: what was read and written, and what is given back.
pub record AnswersForm {D M S K : Type 0} (d : DiskGhosts D) (m : MediaGhosts M) (s : SourceGhosts S) (k : SinkGhosts K) (form : Option Form)
    (disk : D) (files : M) (input input' : S) (output output' : K) (result : RunOutcome D M) : Type 0 where
  -- the status tells that the words are no form just where they are none
  pub usage : (result.status ≡ USAGE) ↔ (form ≡ None)
  -- and then the output is the one line that tells so
  pub usage_text : result.status ≡ USAGE → Wrote (seen k.taken k.faults output) (seen k.taken k.faults output') (codes "usage\n")
  -- they read no input
  pub usage_input : form ≡ None → input' ≡ input
  -- `dry` leaves the disk, and answers as a dry run does
  pub dry :
      form ≡ Some forms.Dry → (result.disk ≡ disk)
      × AnswersDry m result.status (seen s.left s.faults input) (seen s.left s.faults input') files result.media (seen k.taken k.faults output)
      (seen k.taken k.faults output')
  -- `format` reads no input, and answers by what it leaves on the disk
  pub format :
      OnFormat form (λ frame. (input' ≡ input)
      × AnswersFormat d result.status frame disk result.disk (seen k.taken k.faults output) (seen k.taken k.faults output'))
  -- on a disk that was formatted nothing is left to be synced
  pub synced : OnFormat form (λ _. HasFormatted result.status → IsSynced d.bytes d.tells_crashes d.moment d.may_hold_after result.disk)
  -- no count of faults falls, and the input is read so often at most
  pub counts :
      (s.faults input ≤ s.faults input') × (k.faults output ≤ k.faults output') × (d.faults disk ≤ d.faults result.disk)
      × (s.reads input' ≤ s.reads input + 1048577)
  -- each read of the input but the last gave a byte
  pub each : IfSome (s.left input) (λ bytes. s.reads input' ≤ s.reads input + length bytes + 1)
  -- `replay` answers by what it made of the schedule with these media, and what is left of the disk
  pub replay :
      form ≡ Some forms.Replay
      → AnswersReplay d m result.status (seen s.left s.faults input) (seen s.left s.faults input') disk result.disk files result.media
      result.journal (seen k.taken k.faults output) (seen k.taken k.faults output')
  -- `run`, with totals or without, answers by what the daemons of its scripts made on it with these media, and what is left of the disk
  pub run :
      (totals : Bool) → form ≡ Some (forms.Run totals)
      → AnswersRun totals d m result.status (seen s.left s.faults input) (seen s.left s.faults input') disk result.disk files result.media
      result.journal (seen k.taken k.faults output) (seen k.taken k.faults output')
  -- `load` reads no input, and answers by what its rounds made on it, and what is left of the disk
  pub load :
      (rounds : ℕ) → form ≡ Some (forms.Load rounds) → (input' ≡ input)
      × AnswersLoad rounds d m result.status disk result.disk files result.media result.journal (seen k.taken k.faults output)
      (seen k.taken k.faults output')
  -- `recover` reads no input, and answers by what it puts back
  pub recover :
      form ≡ Some forms.Recover → (input' ≡ input)
      × AnswersRecover d result.status disk result.disk (seen k.taken k.faults output) (seen k.taken k.faults output')
  -- `inspect` reads no input, and answers by the world that it shows
  pub inspect :
      form ≡ Some forms.Inspect → (input' ≡ input)
      × AnswersInspect d result.status disk result.disk (seen k.taken k.faults output) (seen k.taken k.faults output')
  -- only `replay`, `run` and `load` keep a journal
  pub given : (form ≢ Some forms.Replay) → is_live form ≡ false → is_load form ≡ false → result.journal ≡ []
  -- media tell the same, and no count of theirs falls
  pub media : HaveFailed 0 0 (media_change m.told m.faults m.short files result.media)
  -- only `dry`, `replay`, `run` and `load` read media
  pub unread : (form ≢ Some forms.Dry) → (form ≢ Some forms.Replay) → is_live form ≡ false → is_load form ≡ false → result.media ≡ files
  -- by these statuses the disk is as it was, where the words ask for no heap to be opened
  pub same : opens_heap form ≡ false → LeavesDisk result.status → result.disk ≡ disk
  -- the disk is as long, and tells what a crash may leave if it did
  pub keeps : KeepsDisk d.bytes d.tells_crashes disk result.disk

-- What `top` answers to the words: by the form that they are.
abbrev pub AnswersWords : {D M S K : Type 0} → DiskGhosts D → MediaGhosts M → SourceGhosts S → SinkGhosts K → List (RcStr Global) → D → M → S → S → K → K
    → RunOutcome D M → Type 0
AnswersWords d m s k words disk files input input' output output' result =
    AnswersForm d m s k (form_of words) disk files input input' output output' result

-- What `live` answers to the words: by the form `run`, and to all others as to words that are no form.
abbrev pub AnswersLive : {D M S K : Type 0} → DiskGhosts D → MediaGhosts M → SourceGhosts S → SinkGhosts K → List (RcStr Global) → D → M → S → S → K → K
    → RunOutcome D M → Type 0
AnswersLive d m s k words disk files input input' output output' result =
    AnswersForm d m s k (live_form (form_of words)) disk files input input' output output' result

-- What `still` answers to the words: by the form that they are, and to `run` as to words that are no form.
abbrev pub AnswersStill : {D M S K : Type 0} → DiskGhosts D → MediaGhosts M → SourceGhosts S → SinkGhosts K → List (RcStr Global) → D → M → S → S → K → K
    → RunOutcome D M → Type 0
AnswersStill d m s k words disk files input input' output output' result =
    AnswersForm d m s k (still_form (form_of words)) disk files input input' output output' result
