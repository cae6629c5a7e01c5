use Rattle.law_steps.proofs.FrontLaws.{front_kept}
use Rattle.law_steps.proofs.occupancies.front_kept.Goals as goal

pub returns : goal.returns
returns c = front_kept
