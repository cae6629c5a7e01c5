use Rattle.sdr_turn.proofs.EntryLemmas.{prefix_self, prefix_trans}
use Rattle.sdr_daemon.proofs.scripted_run.ScriptedRun.turn_each.Goals as goal

pub loop-place-init : goal.loop-place-init
loop-place-init g c = prefix_self _

pub loop-place-preserved : goal.loop-place-preserved
loop-place-preserved g c = prefix_trans _ _ _ c.loop-place.invariant c.turn.ensures.grows
