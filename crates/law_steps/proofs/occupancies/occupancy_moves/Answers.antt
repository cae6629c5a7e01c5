use Rattle.law_steps.proofs.OccupancyLaws.{occupancy_moves}
use Rattle.law_steps.proofs.occupancies.occupancy_moves.Goals as goal

pub returns : goal.returns
returns c = occupancy_moves
