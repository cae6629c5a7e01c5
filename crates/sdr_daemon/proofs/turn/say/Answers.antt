use Rattle.std.proofs.Common.{◌∙◌, sym}
use Rattle.sdr_machine.specs.Core.{closed_by}
use Rattle.sdr_daemon.proofs.LineLemmas.{none_if}
use Rattle.sdr_daemon.specs.TakingTurns.{SaysLine}
use Rattle.sdr_daemon.proofs.turn.say.Goals as goal

pub returns-then-closes-clause-says : goal.returns-then-closes-clause-says
returns-then-closes-clause-says g c =
    SaysLine.said c.in-Ok.came c.in-Ok.ensures.makes c.note-held.ensures.does (sym c.closes.ensures ∙ c.if-closes.true)

pub returns-then-held-clause-says : goal.returns-then-held-clause-says
returns-then-held-clause-says g c =
    SaysLine.said c.in-Ok.came c.in-Ok.ensures.makes c.note-held.ensures.does (none_if (closed_by c.in-Ok.came.answer) (sym c.closes.ensures ∙ c.if-closes.false), c.note-held.ensures.held c.if-held.true)

pub returns-clause-says : goal.returns-clause-says
returns-clause-says g c =
    SaysLine.said c.in-Ok.came c.in-Ok.ensures.makes c.note-held.ensures.does (none_if (closed_by c.in-Ok.came.answer) (sym c.closes.ensures ∙ c.if-closes.false), c.note-held.ensures.starved c.if-held.false)
