use Rattle.std.proofs.Common.{◌≡◌, ◌≤◌, ◌++◌, List, length}
use Rattle.sdr_model.specs.declared.script.ScriptStep.{ScriptStep}
use Rattle.sdr_daemon.specs.Progressing.{steps_ahead}
use Rattle.sdr_daemon.specs.Turns.{steps_by}
use Rattle.sdr_daemon.proofs.script_place.next_step.Given as goal

abbrev pub invariant-loop-step : goal.invariant-loop-step
invariant-loop-step l = record {
  whole : (front : List ScriptStep) × (l.script ≡ front ++ l.rest) × (l.place ≤ length front);
  same : steps_by l.daemon l.rest ≡ steps_ahead l.script l.daemon l.place;
}

abbrev pub decreases-loop-step : goal.decreases-loop-step
decreases-loop-step l = length l.rest
