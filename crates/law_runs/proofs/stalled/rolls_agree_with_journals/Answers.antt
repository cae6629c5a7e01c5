use Rattle.law_runs.proofs.RunLemmas.{run_agrees, run_stalls}
use Rattle.law_runs.proofs.stalled.rolls_agree_with_journals.Goals as goal

pub returns-clause-agree : goal.returns-clause-agree
returns-clause-agree c = run_agrees

pub returns-clause-stalled : goal.returns-clause-stalled
returns-clause-stalled c = run_stalls
