use Rattle.std.proofs.Common.{◌≡◌, map, take}
use Rattle.sdr_machine.specs.declared.daemon.Daemon.{Daemon}
use Rattle.sdr_daemon.specs.Progressing.{first_progress}
use Rattle.sdr_daemon.proofs.scripted_run.progress_of.Given as goal

-- the daemons so far are before their first lines
abbrev pub invariant-loop-daemon : goal.invariant-loop-daemon
invariant-loop-daemon l = l.progress.items ≡ map (λ (d : Daemon). first_progress d.id) (take l.daemon-index l.daemons)
