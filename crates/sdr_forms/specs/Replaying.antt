-- What `replay` answers.
use Rattle.std.specs.Prelude.{ℕ, List}
use Rattle.sdr_base.specs.declared.media.Media.{Ghosts as MediaGhosts}
use Rattle.sdr_disk.specs.declared.disk.Disk.{Ghosts as DiskGhosts}
use Rattle.sdr_model.specs.declared.journal.Entry.{Entry}
use Rattle.sdr_run.specs.Playing.{ReplaysSteps}
use Rattle.sdr_forms.specs.Answers.{Seen}
use Rattle.sdr_forms.specs.OnHeap.{AnswersOnHeap}

-- What a replay answers. A script that is refused is not run. One that is accepted is run to its end on the heap of the disk, in the order of
-- its lines, unless there is no heap, a fault, or no memory. The text is the lines of all answers.
abbrev pub AnswersReplay : {D M : Type 0} → DiskGhosts D → MediaGhosts M → ℕ → Seen → Seen → D → D → M → M → List Entry → Seen → Seen → Type 0
AnswersReplay d m status source source' disk disk' files files' journal sink sink' =
    AnswersOnHeap d m ReplaysSteps status source source' disk disk' files files' journal sink sink'
