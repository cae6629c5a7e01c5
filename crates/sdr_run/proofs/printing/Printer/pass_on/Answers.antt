use Rattle.sdr_run.proofs.PlayingLemmas.{passed_as, printed_none, where_going}
use Rattle.sdr_run.proofs.printing.Printer.pass_on.Goals as goal

pub returns-then-not-self-clause-prints : goal.returns-then-not-self-clause-prints
returns-then-not-self-clause-prints g c = printed_none _ _ _ c.if-not-self.true

pub returns-clause-prints : goal.returns-clause-prints
returns-clause-prints g c = passed_as c.pass_on.result _ _ _ _ c.if-not-self.false c.is_ok-self.ensures.value c.pass_on.ensures.same c.pass_on.ensures.cause

pub returns-clause-empty : goal.returns-clause-empty
returns-clause-empty g c = where_going c.pass_on.result _ c.is_ok-self.ensures.value c.pass_on.ensures.empty
