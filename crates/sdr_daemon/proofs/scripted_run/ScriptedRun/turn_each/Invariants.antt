use mathlib.Core.List.{IsPrefix}
use Rattle.sdr_daemon.proofs.scripted_run.ScriptedRun.turn_each.Given as goal

-- the journal has only grown
abbrev pub invariant-loop-place : goal.invariant-loop-place
invariant-loop-place g l = IsPrefix l.initial.self.core.log.journal l.self.core.log.journal
