use Rattle.law_steps.proofs.StepLemmas.{refused_leaves, refused_moves}
use Rattle.law_steps.proofs.refused.refused_leaves.Goals as goal

pub returns-clause-world : goal.returns-clause-world
returns-clause-world c = refused_leaves

pub returns-clause-moves : goal.returns-clause-moves
returns-clause-moves c = refused_moves
