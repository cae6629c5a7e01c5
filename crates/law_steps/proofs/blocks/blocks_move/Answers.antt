use Rattle.law_steps.proofs.BlockLaws.{blocks_move}
use Rattle.law_steps.proofs.blocks.blocks_move.Goals as goal

pub returns : goal.returns
returns c = blocks_move
