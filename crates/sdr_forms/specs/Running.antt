-- What `run` answers.
use Rattle.std.specs.Prelude.{ℕ, List, [], ◌++◌, Bool, true, false}
use Rattle.sdr_base.specs.declared.media.Media.{Ghosts as MediaGhosts}
use Rattle.sdr_board.specs.Totals.{totals}
use Rattle.sdr_board.specs.declared.totals.Totals.{Totals}
use Rattle.sdr_core.specs.Caused.{MediaChange}
use Rattle.sdr_disk.specs.declared.disk.Disk.{Ghosts as DiskGhosts}
use Rattle.sdr_machine.specs.Ground.{State}
use Rattle.sdr_model.specs.declared.journal.Entry.{Entry}
use Rattle.sdr_model.specs.declared.script.ScriptStep.{ScriptStep}
use Rattle.run_live.specs.Daemons.{RunsDaemons}
use Rattle.sdr_forms.specs.Answers.{Seen}
use Rattle.sdr_forms.specs.OnHeap.{AnswersOnHeap}
use Rattle.sdr_text.specs.JournalText.{journal_text}
use Rattle.sdr_text.specs.TotalsText.{totals_text}

-- the line of totals where it is asked, and else nothing
abbrev pub line_asked : Bool → Totals → List ℕ
line_asked true t = totals_text t
line_asked false t = []

-- what is printed of a journal: its text, and behind it the line of its totals where that is asked
abbrev pub printed_journal : Bool → List Entry → List ℕ
printed_journal true journal = journal_text journal ++ totals_text (totals journal)
printed_journal false journal = journal_text journal

-- The journal is that of a run of daemons from this state, with media that changed so, and P holds of what is printed of it, with totals or
-- without.
pub record PrintsJournal (with_totals : Bool) (media : MediaChange) (first : State) (script : List ScriptStep) (journal : List Entry) (starved : Bool)
    (P : List ℕ → Type 0) : Type 0 where
  pub runs : RunsDaemons media first script journal starved
  pub text : P (printed_journal with_totals journal)

-- What a run of daemons answers, with totals or without. Scripts that are refused are not run. Those that are accepted are run on the heap of the disk, in whatever
-- order daemons get the lock, each to its last line or to a leave that says why not, unless there is no heap, a fault, or no memory. The text is
-- that of the journal, and behind it the line of its totals where that is asked.
abbrev pub AnswersRun : {D M : Type 0} → Bool → DiskGhosts D → MediaGhosts M → ℕ → Seen → Seen → D → D → M → M → List Entry → Seen → Seen → Type 0
AnswersRun with_totals d m status source source' disk disk' files files' journal sink sink' =
    AnswersOnHeap d m (PrintsJournal with_totals) status source source' disk disk' files files' journal sink sink'
