-- Daemons that run their scripts on the heap of a disk.
use Rattle.std.specs.Prelude.{◌≡◌, List, Bool, not}
use Rattle.std.specs.List.{list_any}
use Rattle.sdr_base.specs.declared.media.Media.{Ghosts as MediaGhosts}
use Rattle.sdr_board.specs.Totals.{totals}
use Rattle.sdr_core.specs.Caused.{EntriesAreCaused, MediaChange, media_change}
use Rattle.sdr_core.specs.CoreKept.{IsRunOf, RunStart}
use Rattle.sdr_core.specs.Ended.{StandsEnded}
use Rattle.sdr_daemon.specs.Scripts.{KeepsToScripts, is_memory_leave}
use Rattle.run_live.specs.declared.daemons.RanTotals.{RanTotals}
use Rattle.sdr_disk.specs.declared.disk.Disk.{Ghosts as DiskGhosts}
use Rattle.sdr_machine.specs.Crash.{is_sound}
use Rattle.sdr_machine.specs.Ground.{State}
use Rattle.sdr_machine.specs.declared.has_ground.HasGround.{Ghosts}
use Rattle.sdr_model.specs.declared.journal.Entry.{Entry}
use Rattle.sdr_model.specs.declared.script.ScriptStep.{ScriptStep}
use Rattle.sdr_run.specs.Replaying.{RanOn}
use Rattle.sdr_words.specs.Daemons.{daemons_of}

-- The journal keeps to the scripts of the daemons, from this state on. Its answers that blame media have their causes, and a leave tells
-- whether memory was wanting.
pub record RunsDaemons (media : MediaChange) (first : State) (script : List ScriptStep) (journal : List Entry) (starved : Bool) : Type 0 where
  -- the entries of each are its lines in order, all of them unless it left for want of memory, for a fault of the disk, or spent
  pub keeps : KeepsToScripts media.before.told first script journal
  -- media tell the same, and the answers in it that tell of faults of theirs, and of too few bytes, are caused
  pub caused : EntriesAreCaused journal media
  -- whether memory was wanting is told by a leave
  pub wanting : starved ≡ list_any is_memory_leave journal

-- The daemons of a script ran on a ground, from where the run begins.
pub record RunsOnGround {T : Type 0} (g : Ghosts T) (b : RunStart) (script : List ScriptStep) (ran : RanTotals T) : Type 0 where
  pub keeps : KeepsToScripts b.told b.first script ran.journal
  -- what a crash leaves is told by the journal
  pub run : IsRunOf g b ran.journal ran.base
  -- unless the disk failed in an entry, no transaction is open on the ground
  pub ended : StandsEnded g b ran.journal ran.base
  -- the disk failed just where it did in an entry
  pub failed : ran.failed ≡ not (is_sound ran.journal)
  pub wanting : ran.starved ≡ list_any is_memory_leave ran.journal
  pub totals_are : ran.totals ≡ totals ran.journal

-- The daemons of a script ran on the heap of the disk.
pub record RunsOn {D M : Type 0} (d : DiskGhosts D) (m : MediaGhosts M) (disk : D) (files : M) (script : List ScriptStep)
    (ran : RanTotals (D × M)) : Type 0 where
  pub on_heap : RanOn d m (daemons_of script) disk ran.base.0 files ran.journal
      (λ first. RunsDaemons (media_change m.told m.faults m.short files ran.base.1) first script ran.journal ran.starved)
  -- the disk failed just where it did in an entry
  pub failed : ran.failed ≡ not (is_sound ran.journal)
  pub totals_are : ran.totals ≡ totals ran.journal
