use Rattle.std.proofs.Common.{subst}
use Rattle.sdr_model.specs.declared.event.Event.{Event}
use Rattle.sdr_daemon.specs.TakingTurns.{SaysLine}
use Rattle.sdr_daemon.proofs.turn.line.Goals as goal

pub returns-in-Ok-clause-says : goal.returns-in-Ok-clause-says
returns-in-Ok-clause-says g c =
    subst (λ (ev : Event). SaysLine g.T.HasGround c.args.step.now c.args.after ev c.args.core.now c.say.new.core c.args.progress.now c.say.new.progress c.say.result) c.in-Ok.ensures c.say.ensures.says
