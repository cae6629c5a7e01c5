use Rattle.std.proofs.Common.{◌∙◌, ap, map, subst, sym}
use Rattle.sdr_daemon.proofs.StarveLemmas.{starved_at, starved_run}
use Rattle.sdr_daemon.specs.Drawing.{starved}
use Rattle.sdr_daemon.specs.Progressing.{IsScriptedRun, ScriptedCore}
use Rattle.sdr_daemon.proofs.scripted_run.ScriptedRun.starve.Goals as goal

pub invariant_of-self : goal.invariant_of-self
invariant_of-self g c = (
  subst (IsScriptedRun g.T.HasGround g.J.Origin.begins g.S.Scripted.script c.self.inside.core)
      (sym (starved_at c.self.inside.progress c.as_mut_slice.result.now c.starve_all.new.these c.as_mut_slice.ensures.value c.starve_all.ensures))
      (starved_run g.T.HasGround g.J.Origin.begins g.S.Scripted.script c.self.inside.core c.self.inside.progress.items c.self.invariant.0),
  c.self.invariant.1,
)

pub returns-clause-starved : goal.returns-clause-starved
returns-clause-starved g c =
    starved_at c.self.inside.progress c.as_mut_slice.result.now c.starve_all.new.these c.as_mut_slice.ensures.value c.starve_all.ensures
    ∙ ap (λ (v : ScriptedCore g.row.T.Denot). map starved v.progress) c.self.view_is
