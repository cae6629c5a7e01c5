use Rattle.std.proofs.Common.{◌≡◌, subst, sym, true}
use Rattle.sdr_daemon.proofs.RunLemmas.{all_left}
use Rattle.sdr_daemon.specs.Progressing.{ScriptedCore, have_left}
use Rattle.sdr_daemon.specs.Scripts.{KeepsToScripts}
use Rattle.sdr_daemon.proofs.scripted_run.ScriptedRun.finish.Goals as goal

pub returns-clause-keeps : goal.returns-clause-keeps
returns-clause-keeps g c =
    let b = g.J.Origin.begins in
    subst (KeepsToScripts b.told b.first g.S.Scripted.script) (sym c.finish.ensures.journal)
    (all_left g.T.HasGround b g.S.Scripted.script c.self.inside.core c.self.inside.progress.items c.finish.ensures.ran c.self.invariant.0
    (subst (λ (v : ScriptedCore g.row.T.Denot). have_left v.core.lock.roll v.progress ≡ true) (sym c.self.view_is) c.requires.left))

pub returns-clause-ended : goal.returns-clause-ended
returns-clause-ended g c = c.finish.ensures.ended (λ unfailed. c.self.invariant.0.free)
