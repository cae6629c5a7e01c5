use Rattle.law_steps.proofs.WholeLaws.{whole_kept}
use Rattle.law_steps.proofs.validity.whole_kept.Goals as goal

pub returns : goal.returns
returns c = whole_kept
