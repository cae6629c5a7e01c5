use Rattle.law_runs.proofs.SuspendedRow.{suspended_row}
use Rattle.law_runs.proofs.rows.a_second_daemon_is_suspended.Goals as goal

pub returns : goal.returns
returns c = suspended_row
