-- What each form answers: by status, what was read, written and changed.
use Rattle.std.specs.Prelude.{◌≡◌, ◌≢◌, ◌≤◌, ◌<◌, ◌↔◌, ◌⊎◌, ℕ, List, Option, Some, IsOk, IsErr, codes, ◌&&◌, MatchBool, length}
use Rattle.std.specs.Io.KnownBytes.{Appends}
use Rattle.sdr_base.specs.Causes.{Rose}
use Rattle.sdr_base.specs.Media.{Told}
use Rattle.sdr_base.specs.Written.{AppendsPart}
use Rattle.sdr_base.specs.declared.media.Media.{Ghosts as MediaGhosts}
use Rattle.sdr_disk.specs.declared.disk.Disk.{Ghosts as DiskGhosts}
use Rattle.sdr_log.specs.Frame.{disk_bytes}
use Rattle.sdr_log.specs.declared.frame.Frame.{Frame}
use Rattle.sdr_forms.specs.Formatting.{line_formatted, line_too_small, IsFormatted, HasFormatted, IsFormatStatus}
use Rattle.sdr_core.specs.Caused.{MediaChange, media_change}
use Rattle.sdr_model.specs.declared.script.ScriptStep.{ScriptStep}
use Rattle.sdr_run.specs.Asking.{AsksAlong}
use Rattle.sdr_run.specs.Playing.{Output}
use Rattle.sdr_run.specs.declared.playing.Played.{Played}
use Rattle.sdr_forms.specs.Still.{WritesOut, HadRun, HadScript, IsDone, IsDryStatus, IsRefused, IsStarved}
use Rattle.sdr_words.specs.Script.{input_script}
use Rattle.sdr_forms.specs.declared.status.TheConstants.{DONE, INPUT_FAULT, OUTPUT_FAULT, DISK_FAULT, REFUSED_LINE, NO_MEMORY, TOO_SMALL}

-- what a source, a sink or a disk shows: its bytes, where it tells them, and how often it has failed
pub record Seen : Type 0 where
  pub bytes : Option (List ℕ)
  pub faults : ℕ

-- what is seen of one
abbrev pub seen : {X : Type 0} → (X → Option (List ℕ)) → (X → ℕ) → X → Seen
seen bytes faults x = record { bytes = bytes x; faults = faults x }

-- what is seen of media as they were and as they are
abbrev pub change_of : {M : Type 0} → MediaGhosts M → M → M → MediaChange
change_of m files files' = media_change m.told m.faults m.short files files'

-- the text was written whole, or a part of it from the front where the sink failed
abbrev pub Wrote : Seen → Seen → List ℕ → Type 0
Wrote sink sink' text = WritesOut sink.bytes sink'.bytes sink.faults sink'.faults text

-- what is seen of an output
abbrev pub output_of : Seen → Output
output_of sink = record { taken = sink.bytes; faults = sink.faults }

-- what is told behind the text of a dry run that came to this
abbrev pub TellsBehind : Played → Seen → Seen → Type 0
TellsBehind played mid now = MatchBool (played.starved && played.printing) (Wrote mid now (codes "no memory\n")) (now ≡ mid)

-- The script was run, and in the run media were asked at most once for each extent that lies with them and of which its events
-- need bytes.
pub record RanAsking (told : Option Told) (script : List ScriptStep) (asked asked' : ℕ) (sink sink' : Seen) : Type 0 where
  pub played : Played
  pub mid : Seen
  pub asks : AsksAlong told script asked asked' (output_of sink) (output_of mid) played
  pub tells : TellsBehind played mid sink'

-- the source's input spelled the script
pub record HadAsking (left : Option (List ℕ)) (told : Option Told) (asked asked' : ℕ) (sink sink' : Seen) : Type 0 where
  pub script : List ScriptStep
  pub input : HadScript left script
  pub ran : RanAsking told script asked asked' sink sink'

-- no script was run, and media weren't asked; or one was run so
abbrev pub AsksDry : Option (List ℕ) → Option Told → ℕ → ℕ → Seen → Seen → Type 0
AsksDry left told asked asked' sink sink' = (asked' ≡ asked) ⊎ HadAsking left told asked asked' sink sink'

-- What a dry run answers. A script that is refused is not run, and media stay as they are; one that is accepted is run to its end, unless
-- there is a fault or no memory.
pub record AnswersDry {M : Type 0} (m : MediaGhosts M) (status : ℕ) (source source' : Seen) (files files' : M) (sink sink' : Seen) : Type 0 where
  pub known : IsDryStatus status
  pub done : status ≡ DONE → IsDone source.bytes source'.bytes (change_of m files files') sink.bytes sink'.bytes
  pub asks : AsksDry source.bytes (m.told files) (m.asks files) (m.asks files') sink sink'
  pub unread : (status ≡ INPUT_FAULT) ⊎ (status ≡ REFUSED_LINE) → files' ≡ files
  pub input : status ≡ INPUT_FAULT → Rose source.faults source'.faults
  pub input_text : status ≡ INPUT_FAULT → Wrote sink sink' (codes "input fault\n")
  pub output : status ≡ OUTPUT_FAULT → Rose sink.faults sink'.faults
  pub part : status ≡ OUTPUT_FAULT → HadRun source.bytes (change_of m files files') (λ rest text. AppendsPart sink.bytes sink'.bytes text)
  pub refused : status ≡ REFUSED_LINE → IsRefused source.bytes sink.bytes sink'.bytes sink.faults sink'.faults
  pub starved :
      status ≡ NO_MEMORY
      → IsStarved source.bytes (change_of m files files') (files' ≡ files) sink.bytes sink'.bytes sink.faults sink'.faults
  pub exact : (bytes : List ℕ) → source.bytes ≡ Some bytes → IsErr (input_script bytes) → (status ≢ DONE) × (status ≢ OUTPUT_FAULT)
  pub complete : (bytes : List ℕ) → source.bytes ≡ Some bytes → IsOk (input_script bytes) → ¬ Rose source.faults source'.faults
      → ¬ Rose sink.faults sink'.faults → (status ≡ DONE) ⊎ (status ≡ NO_MEMORY)

-- What formatting a disk answers. One that is long enough is formatted, unless there is a fault.
pub record AnswersFormat {D : Type 0} (d : DiskGhosts D) (status : ℕ) (frame : Frame) (disk disk' : D) (sink sink' : Seen) : Type 0 where
  pub known : IsFormatStatus status
  pub formatted : HasFormatted status → IsFormatted frame (d.bytes disk) (d.bytes disk')
  pub text : status ≡ DONE → Appends sink.bytes sink'.bytes (line_formatted frame)
  pub output : status ≡ OUTPUT_FAULT → Rose sink.faults sink'.faults
  pub part : status ≡ OUTPUT_FAULT → AppendsPart sink.bytes sink'.bytes (line_formatted frame)
  pub small : (status ≡ TOO_SMALL) ↔ (length (d.bytes disk) < disk_bytes frame)
  pub small_text : status ≡ TOO_SMALL → Wrote sink sink' (line_too_small (disk_bytes frame) (length (d.bytes disk)))
  pub fault : status ≡ DISK_FAULT → Rose (d.faults disk) (d.faults disk')
  pub fault_text : status ≡ DISK_FAULT → Wrote sink sink' (codes "disk fault\n")
  pub complete :
      disk_bytes frame ≤ length (d.bytes disk) → ¬ Rose (d.faults disk) (d.faults disk') → ¬ Rose sink.faults sink'.faults
      → status ≡ DONE
