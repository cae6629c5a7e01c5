use Rattle.sdr_run.proofs.PlayingLemmas.{printed_as, printed_none}
use Rattle.sdr_run.proofs.printing.Printer.print.Goals as goal

pub returns-then-not-self-clause-prints : goal.returns-then-not-self-clause-prints
returns-then-not-self-clause-prints g c = printed_none _ _ _ c.if-not-self.true

pub returns-clause-prints : goal.returns-clause-prints
returns-clause-prints g c = printed_as c.put.result _ _ _ _ _ c.if-not-self.false c.is_ok-self.ensures.value c.put.ensures.ok c.put.ensures.err c.put.ensures.cause
