use Rattle.law_steps.proofs.StepLemmas.{taken_are_marked}
use Rattle.law_steps.proofs.marks.taken_are_marked.Goals as goal

pub returns : goal.returns
returns c = taken_are_marked
