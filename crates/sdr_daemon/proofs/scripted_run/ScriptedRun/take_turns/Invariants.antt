use mathlib.Core.List.{IsPrefix}
use Rattle.sdr_daemon.proofs.scripted_run.ScriptedRun.take_turns.Given as goal

-- the journal has only grown
abbrev pub invariant-loop : goal.invariant-loop
invariant-loop g l =
    (goal.iterator-loop g).can_next l.iterator' × (goal.iterator-loop g).is_finite l.iterator' × IsPrefix l.initial.self.core.log.journal l.self.core.log.journal
