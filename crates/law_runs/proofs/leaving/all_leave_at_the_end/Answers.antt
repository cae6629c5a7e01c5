use Rattle.law_runs.proofs.LeavingLemmas.{run_leaves}
use Rattle.law_runs.proofs.leaving.all_leave_at_the_end.Goals as goal

pub returns : goal.returns
returns c = run_leaves
