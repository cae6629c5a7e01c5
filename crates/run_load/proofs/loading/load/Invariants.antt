use Rattle.sdr_run.specs.Handed.{handed_as}
use Rattle.sdr_run.specs.Replaying.{IsSettled}
use Rattle.run_load.proofs.loading.load.Given as goal

-- the disk that is handed in
abbrev pub ghosts-load_on : goal.ghosts-load_on
ghosts-load_on g a = record { was = handed_as g.D.Disk a.disk; condition = IsSettled g.D.Disk a.disk }
