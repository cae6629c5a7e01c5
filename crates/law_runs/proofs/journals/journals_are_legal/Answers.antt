use Rattle.law_runs.proofs.RunLemmas.{run_is_after, run_is_legal, run_members}
use Rattle.law_runs.proofs.journals.journals_are_legal.Goals as goal

pub returns-clause-legal : goal.returns-clause-legal
returns-clause-legal c = run_is_legal

pub returns-clause-after : goal.returns-clause-after
returns-clause-after c = run_is_after

pub returns-clause-daemons : goal.returns-clause-daemons
returns-clause-daemons c = run_members
