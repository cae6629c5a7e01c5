use Rattle.sdr_buffer.proofs.WaitingLemmas.{grows_more}
use Rattle.sdr_run.proofs.PlayingLemmas.{prints_then}
use Rattle.sdr_run.proofs.playing.answer.Goals as goal

pub returns-clause-prints : goal.returns-clause-prints
returns-clause-prints g c = record {
  bytes = c.given.result.now;
  gives = c.given.ensures;
  tells = prints_then _ _ _ _ _ _ _ c.settle.ensures.prints c.settle.ensures.later c.print.ensures.prints;
}

pub returns-clause-grows : goal.returns-clause-grows
returns-clause-grows g c = grows_more _ _ _ c.settle.ensures.grows c.print.ensures.grows
