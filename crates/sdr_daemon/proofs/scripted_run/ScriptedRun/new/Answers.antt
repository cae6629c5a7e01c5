use Rattle.std.proofs.Common.{List, ap, subst, sym}
use Rattle.sdr_daemon.proofs.FreshLemmas.{fresh_few, fresh_progress, fresh_run}
use Rattle.sdr_daemon.specs.Progressing.{IsScriptedRun, ScriptedCore}
use Rattle.sdr_daemon.specs.declared.script_place.ScriptPlace.{ScriptPlace}
use Rattle.sdr_daemon.proofs.scripted_run.ScriptedRun.new.Goals as goal

pub progress_of-progress-requires : goal.progress_of-progress-requires
progress_of-progress-requires g c = fresh_few g.T.HasGround g.J.Origin.begins g.S.Scripted.script c.args.core c.roll.result.now c.requires.fresh c.requires.named c.roll.ensures.roll

pub invariant_of-result : goal.invariant_of-result
invariant_of-result g c =
    let is = fresh_progress g.T.HasGround g.J.Origin.begins c.args.core c.roll.result.now c.progress_of-progress.result.items c.requires.fresh c.roll.ensures.roll c.progress_of-progress.ensures in (
      subst (IsScriptedRun g.T.HasGround g.J.Origin.begins g.S.Scripted.script c.args.core) (sym is)
          (fresh_run g.T.HasGround g.J.Origin.begins g.S.Scripted.script c.args.core c.requires.fresh c.requires.named),
      c.requires.script,
    )

pub returns : goal.returns
returns g c =
    ap (λ (these : List ScriptPlace). let v : ScriptedCore g.row.T.Denot = record { core = c.args.core; progress = these } in v)
    (fresh_progress g.T.HasGround g.J.Origin.begins c.args.core c.roll.result.now c.progress_of-progress.result.items c.requires.fresh c.roll.ensures.roll c.progress_of-progress.ensures)
