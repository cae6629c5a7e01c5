use Rattle.sdr_run.specs.Handed.{handed_as}
use Rattle.sdr_run.specs.Replaying.{IsSettled}
use Rattle.run_live.proofs.daemons.run_daemons.Given as goal

-- the disk that is handed in
abbrev pub ghosts-run_on-J-HandedIn : goal.ghosts-run_on-J-HandedIn
ghosts-run_on-J-HandedIn g a = record { was = handed_as g.D.Disk a.disk; condition = IsSettled g.D.Disk a.disk }

-- the script that is handed in
abbrev pub ghosts-run_on-S-Scripted : goal.ghosts-run_on-S-Scripted
ghosts-run_on-S-Scripted g a = record { script = a.script }
