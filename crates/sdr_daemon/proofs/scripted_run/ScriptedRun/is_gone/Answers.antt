use Rattle.std.proofs.Common.{subst}
use Rattle.sdr_daemon.specs.Progressing.{IsScriptedRun, ScriptedCore}
use Rattle.sdr_daemon.proofs.scripted_run.ScriptedRun.is_gone.Goals as goal

pub returns-in-None-clause-holds : goal.returns-in-None-clause-holds
returns-in-None-clause-holds g c =
    subst (λ (v : ScriptedCore g.row.T.Denot). IsScriptedRun g.T.HasGround g.J.Origin.begins g.S.Scripted.script v.core v.progress) c.self.view_is c.self.invariant.0

pub returns-in-Some-clause-holds : goal.returns-in-Some-clause-holds
returns-in-Some-clause-holds g c =
    subst (λ (v : ScriptedCore g.row.T.Denot). IsScriptedRun g.T.HasGround g.J.Origin.begins g.S.Scripted.script v.core v.progress) c.self.view_is c.self.invariant.0
