use Rattle.law_runs.proofs.DoomedRow.{doomed_row}
use Rattle.law_runs.proofs.rows.an_inner_cancel_dooms.Goals as goal

pub returns : goal.returns
returns c = doomed_row
