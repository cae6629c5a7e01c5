use Rattle.law_steps.proofs.BlockLaws.{valid_kept}
use Rattle.law_steps.proofs.validity.valid_kept.Goals as goal

pub returns : goal.returns
returns c = valid_kept
