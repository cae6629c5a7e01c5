use Rattle.law_runs.proofs.FaultedRow.{faulted_row}
use Rattle.law_runs.proofs.rows.the_first_sync_fails.Goals as goal

pub returns : goal.returns
returns c = faulted_row
