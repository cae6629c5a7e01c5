use Rattle.law_runs.proofs.RunLemmas.{run_adds, step_adds}
use Rattle.law_runs.proofs.journals.entries_may_stand.Goals as goal

pub returns-clause-added : goal.returns-clause-added
returns-clause-added c = step_adds

pub returns-clause-stands : goal.returns-clause-stands
returns-clause-stands c = run_adds
