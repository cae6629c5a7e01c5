use Rattle.law_runs.proofs.DeepRow.{deep_row}
use Rattle.law_runs.proofs.rows.depth_sixty_four.Goals as goal

pub returns : goal.returns
returns c = deep_row
