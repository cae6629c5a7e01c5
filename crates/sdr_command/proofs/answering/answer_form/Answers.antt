use Rattle.sdr_command.specs.Ending.{ComesBy}
use Rattle.sdr_command.proofs.answering.answer_form.Goals as goal

pub returns-in_default : goal.returns-in_default
returns-in_default g c = ComesBy.in_memory c.in_default.ensures c.answer_in_memory.ensures.ends

pub returns-in-Some-heap_form : goal.returns-in-Some-heap_form
returns-in-Some-heap_form g c = ComesBy.held c.in-Some.ensures c.in-Some-heap_form.ensures.0 c.run_on_file.ensures

pub returns-in-None : goal.returns-in-None
returns-in-None g c = ComesBy.on_file c.in-Some.ensures c.in-None.ensures c.answer_on_file.ensures
