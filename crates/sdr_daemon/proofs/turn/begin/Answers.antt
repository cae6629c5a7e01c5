use Rattle.sdr_daemon.proofs.WorkLemmas.{begins_so}
use Rattle.sdr_daemon.proofs.turn.begin.Goals as goal

pub returns : goal.returns
returns g c = record {
  begins =
      begins_so g.T.HasGround g.J.Origin.begins g.S.Scripted.script c.args.core.now c.args.progress.now c.say-outcome.new.core c.say-outcome.new.progress c.args.step.now c.args.after c.args.event.now
      c.say-outcome.result c.say-outcome.ensures.says c.in_default.not-Unsaid c.requires.event c.requires.next;
  lasts = c.say-outcome.ensures.lasts;
}
