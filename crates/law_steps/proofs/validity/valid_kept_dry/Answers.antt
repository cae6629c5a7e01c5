use Rattle.law_steps.proofs.DryLaws.{valid_kept_dry}
use Rattle.law_steps.proofs.validity.valid_kept_dry.Goals as goal

pub returns : goal.returns
returns c = valid_kept_dry
