-- What the top call answered.
use Rattle.std.specs.Prelude.{◌≡◌, List}
use Rattle.std.specs.declared.alloc.Global.{Global}
use Rattle.std.specs.declared.rc.RcStr.{RcStr}
use Rattle.sdr_base.specs.declared.media.Media.{Ghosts as MediaGhosts}
use Rattle.sdr_base.specs.declared.sink.Sink.{Ghosts as SinkGhosts}
use Rattle.sdr_base.specs.declared.source.Source.{Ghosts as SourceGhosts}
use Rattle.sdr_disk.specs.declared.disk.Disk.{Ghosts as DiskGhosts}
use Rattle.sdr_shell.specs.Words.{AnswersWords}
use Rattle.sdr_forms.specs.declared.outcome.RunOutcome.{RunOutcome}
use Rattle.sdr_command.specs.declared.answering.Answered.{Answered}

-- This is what the top call answers on a disk, and the status and the disk that were given stand.
pub record IsAnswered {D M S K : Type 0} (d : DiskGhosts D) (m : MediaGhosts M) (s : SourceGhosts S) (k : SinkGhosts K)
    (words : List (RcStr Global)) (disk : D) (files : M) (input input' : S) (output output' : K) (result : Answered D) : Type 0 where
  pub outcome : RunOutcome D M
  pub answers : AnswersWords d m s k words disk files input input' output output' outcome
  pub status : result.status ≡ outcome.status
  pub disk_is : result.disk ≡ outcome.disk
