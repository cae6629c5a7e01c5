use Rattle.std.proofs.Common.{◌≡◌, ◌-◌, None, length}
use Rattle.sdr_core.specs.Leaving.{LastsOn}
use Rattle.sdr_daemon.specs.Working.{ComesToWork}
use Rattle.sdr_daemon.proofs.turn.work.Given as goal

abbrev pub invariant-loop-step : goal.invariant-loop-step
invariant-loop-step g l = record {
  work : ComesToWork g.T.HasGround g.J.Origin.begins g.S.Scripted.script l.fn.core l.core l.fn.progress l.progress;
  stays : l.progress.leaving ≡ None;
  lasts : LastsOn g.T.HasGround l.core.lock.base;
}

abbrev pub decreases-loop-step : goal.decreases-loop-step
decreases-loop-step g l = length l.script - l.progress.place
