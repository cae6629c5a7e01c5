use Rattle.sdr_command.proofs.EndingLemmas.{status_of}
use Rattle.sdr_command.proofs.answering.answer_in_memory.Goals as goal

pub returns-clause-ends : goal.returns-clause-ends
returns-clause-ends g c = status_of _ c.answer.ensures (cc)
