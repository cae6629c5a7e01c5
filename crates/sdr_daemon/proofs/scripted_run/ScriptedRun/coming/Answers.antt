use Rattle.std.proofs.Common.{◌∙◌, ap, sym}
use Rattle.sdr_daemon.proofs.DrawingLemmas.{all_done}
use Rattle.sdr_daemon.proofs.NextLemmas.{nothing_comes, something}
use Rattle.sdr_daemon.proofs.PlaceLemmas.{left_at}
use Rattle.sdr_daemon.specs.Coming.{is_over}
use Rattle.sdr_daemon.proofs.scripted_run.ScriptedRun.coming.Goals as goal

pub returns-then-is_gone-clause-comes : goal.returns-then-is_gone-clause-comes
returns-then-is_gone-clause-comes g c = sym (nothing_comes g.S.Scripted.script c.args.place c.args.self.now (sym c.is_gone.ensures.gone ∙ c.if-is_gone.true))

pub returns-then-is_gone-clause-left : goal.returns-then-is_gone-clause-left
returns-then-is_gone-clause-left g c below =
    sym c.if-is_gone.true ∙ c.is_gone.ensures.gone
    ∙ left_at g.T.HasGround g.J.Origin.begins g.S.Scripted.script c.args.self.now.core c.args.self.now.progress c.is_gone.ensures.holds c.args.place below

pub returns-then-is_gone-clause-done : goal.returns-then-is_gone-clause-done
returns-then-is_gone-clause-done g c = all_done g.T.HasGround g.J.Origin.begins c.args.self.now.core c.is_gone.ensures.run c.is_gone.ensures.holds.free

pub returns-clause-left : goal.returns-clause-left
returns-clause-left g c below =
    ap is_over c.coming_of.ensures ∙ something c.roll.result.now c.as_slice-2.result.now c.index-as_slice-place.result ∙ sym c.if-is_gone.false ∙ c.is_gone.ensures.gone
    ∙ left_at g.T.HasGround g.J.Origin.begins g.S.Scripted.script c.args.self.now.core c.args.self.now.progress c.is_gone.ensures.holds c.args.place below

pub returns-clause-done : goal.returns-clause-done
returns-clause-done g c = all_done g.T.HasGround g.J.Origin.begins c.args.self.now.core c.is_gone.ensures.run c.is_gone.ensures.holds.free
