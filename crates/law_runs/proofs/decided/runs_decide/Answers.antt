use Rattle.law_runs.proofs.ChoiceLemmas.{run_decides}
use Rattle.law_runs.proofs.decided.runs_decide.Goals as goal

pub returns : goal.returns
returns c = run_decides
