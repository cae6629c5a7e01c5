use Rattle.law_steps.proofs.StepLemmas.{moves_are_the_rows}
use Rattle.law_steps.proofs.moves.moves_are_the_rows.Goals as goal

pub returns : goal.returns
returns c = moves_are_the_rows
