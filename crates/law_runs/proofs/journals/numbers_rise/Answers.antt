use Rattle.law_runs.proofs.RunLemmas.{run_drawn, run_held, run_rises}
use Rattle.law_runs.proofs.journals.numbers_rise.Goals as goal

pub returns-clause-rise : goal.returns-clause-rise
returns-clause-rise c = run_rises

pub returns-clause-drawn : goal.returns-clause-drawn
returns-clause-drawn c = run_drawn

pub returns-clause-held : goal.returns-clause-held
returns-clause-held c = run_held
