use Rattle.sdr_run.specs.Replaying.{begins_on}
use Rattle.run_live.proofs.daemons.run_on.Given as goal

-- the heap that was just opened
abbrev pub ghosts-run_on_ground : goal.ghosts-run_on_ground
ghosts-run_on_ground g a = record { begins = begins_on g.M.Media g.J.HandedIn.was a.script a.base }
