use Rattle.law_steps.proofs.BarredLemmas.{served_is_barred}
use Rattle.law_steps.proofs.occupancies.served_is_barred.Goals as goal

pub returns : goal.returns
returns c = served_is_barred
