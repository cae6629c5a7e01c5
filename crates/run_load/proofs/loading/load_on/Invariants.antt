use Rattle.sdr_run.specs.Replaying.{begins_on}
use Rattle.run_load.proofs.loading.load_on.Given as goal

-- the heap that was just opened
abbrev pub ghosts-play_recorded : goal.ghosts-play_recorded
ghosts-play_recorded g a = record { begins = begins_on g.M.Media g.J.HandedIn.was a.steps.now a.base }
