use Rattle.law_runs.proofs.FrameLemmas.{legal_framed}
use Rattle.law_runs.proofs.journals.transactions_are_framed.Goals as goal

pub returns : goal.returns
returns c = legal_framed
