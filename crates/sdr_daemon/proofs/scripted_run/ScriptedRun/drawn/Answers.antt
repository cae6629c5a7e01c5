use Rattle.std.proofs.Common.{subst}
use Rattle.sdr_daemon.specs.Progressing.{IsScriptedRun, ScriptedCore}
use Rattle.sdr_daemon.proofs.scripted_run.ScriptedRun.drawn.Goals as goal

pub returns-clause-holds : goal.returns-clause-holds
returns-clause-holds g c =
    subst (λ (v : ScriptedCore g.row.T.Denot). IsScriptedRun g.T.HasGround g.J.Origin.begins g.S.Scripted.script v.core v.progress) c.self.view_is c.self.invariant.0
