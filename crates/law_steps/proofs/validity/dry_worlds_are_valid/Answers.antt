use Rattle.law_steps.proofs.MachineLaws.{dry_worlds_are_valid}
use Rattle.law_steps.proofs.validity.dry_worlds_are_valid.Goals as goal

pub returns : goal.returns
returns c = dry_worlds_are_valid
