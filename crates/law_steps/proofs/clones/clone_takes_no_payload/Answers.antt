use Rattle.law_steps.proofs.CloneLaws.{clone_takes_no_payload}
use Rattle.law_steps.proofs.clones.clone_takes_no_payload.Goals as goal

pub returns : goal.returns
returns c = clone_takes_no_payload
