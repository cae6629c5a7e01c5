use Rattle.law_steps.proofs.StepLemmas.{row_is_no_stop}
use Rattle.law_steps.proofs.refused.stops_are_no_rows.Goals as goal

pub returns : goal.returns
returns c = row_is_no_stop
