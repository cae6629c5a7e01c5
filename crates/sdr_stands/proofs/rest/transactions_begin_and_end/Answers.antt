use Rattle.sdr_stands.proofs.RestLemmas.{begins, ends}
use Rattle.sdr_stands.proofs.rest.transactions_begin_and_end.Goals as goal

pub returns-clause-begins : goal.returns-clause-begins
returns-clause-begins c = begins

pub returns-clause-ends : goal.returns-clause-ends
returns-clause-ends c = ends
