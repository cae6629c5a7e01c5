use Rattle.sdr_forms.proofs.ScriptRead.{read_steps_are_few}
use Rattle.sdr_command.proofs.answering.read_held.Goals as goal

pub returns-in-Ok-clause-few : goal.returns-in-Ok-clause-few
returns-in-Ok-clause-few c = read_steps_are_few _ _ _ c.in-Ok.ensures.script
