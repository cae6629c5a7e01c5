use Rattle.std.proofs.Common.{◌≡◌}
use Rattle.sdr_daemon.proofs.StarveLemmas.{starved_to}
use Rattle.sdr_daemon.proofs.scripted_run.starve_all.Given as goal

-- the daemons so far mean to leave
abbrev pub invariant-loop-own : goal.invariant-loop-own
invariant-loop-own l = l.these ≡ starved_to l.own-index l.initial.these
