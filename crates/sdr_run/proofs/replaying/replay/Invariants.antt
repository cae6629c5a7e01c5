use Rattle.sdr_run.specs.Handed.{handed_as}
use Rattle.sdr_run.specs.Replaying.{IsSettled}
use Rattle.sdr_run.proofs.replaying.replay.Given as goal

-- the disk that is handed in
abbrev pub ghosts-replay_on : goal.ghosts-replay_on
ghosts-replay_on g a = record { was = handed_as g.D.Disk a.disk; condition = IsSettled g.D.Disk a.disk }
