use Rattle.law_runs.proofs.StalledRow.{stalled_row}
use Rattle.law_runs.proofs.rows.all_have_stalled.Goals as goal

pub returns : goal.returns
returns c = stalled_row
