use Rattle.law_steps.proofs.DecidedLemmas.{rows_decide, rows_decide_but_bytes}
use Rattle.law_steps.proofs.decided.rows_decide.Goals as goal

pub returns-clause-same : goal.returns-clause-same
returns-clause-same c = rows_decide

pub returns-clause-but_bytes : goal.returns-clause-but_bytes
returns-clause-but_bytes c = rows_decide_but_bytes
