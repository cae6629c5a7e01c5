use Rattle.law_steps.proofs.FoundLemmas.{blocks_are_found}
use Rattle.law_steps.proofs.blocks.blocks_are_found.Goals as goal

pub returns : goal.returns
returns c = blocks_are_found
