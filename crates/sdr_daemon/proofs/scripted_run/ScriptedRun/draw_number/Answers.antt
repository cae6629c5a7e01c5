use Rattle.std.proofs.Common.{◌∙◌, ap}
use Rattle.sdr_core.specs.CoreKept.{LoggedLock}
use Rattle.sdr_daemon.proofs.DrawingLemmas.{draws_between, takes_turns}
use Rattle.sdr_daemon.specs.Drawing.{entries_at, have_leave}
use Rattle.sdr_daemon.proofs.scripted_run.ScriptedRun.draw_number.Goals as goal

pub draw_once-requires-clause-stays : goal.draw_once-requires-clause-stays
draw_once-requires-clause-stays g c =
    takes_turns g.S.Scripted.script c.args.place c.pass_lines.new.self c.pass_lines.result c.pass_lines.ensures.comes
    (c.pass_lines.ensures.left c.requires.place
    ∙ ap (λ (k : LoggedLock g.row.T.Denot). have_leave (entries_at g.J.Origin.begins.daemons c.args.place k.log.journal)) c.pass_lines.ensures.core ∙ c.requires.stays)

pub draw_once-requires-clause-comes : goal.draw_once-requires-clause-comes
draw_once-requires-clause-comes g c passes = c.pass_lines.ensures.passed (c.pass_lines.ensures.comes ∙ passes)

pub returns-clause-draws : goal.returns-clause-draws
returns-clause-draws g c =
    draws_between g.J.Origin.begins.daemons c.args.place c.args.self.now c.pass_lines.new.self c.draw_once.new.self c.pass_lines-2.new.self c.pass_lines.ensures.core c.pass_lines.ensures.own c.draw_once.ensures
    c.pass_lines-2.ensures.core c.pass_lines-2.ensures.own

pub returns-clause-left : goal.returns-clause-left
returns-clause-left g c = c.pass_lines-2.ensures.left c.requires.place
