use Rattle.sdr_command.proofs.answering.answer_usage.Goals as goal

pub returns-clause-ends : goal.returns-clause-ends
returns-clause-ends g c = c.answer_in_memory.ensures.ends
