use Rattle.sdr_stands.proofs.PartLemmas.{thing_changed, thing_gone, thing_new}
use Rattle.sdr_stands.proofs.parts.alike_things_are_parts.Goals as goal

pub returns-clause-comes : goal.returns-clause-comes
returns-clause-comes c = thing_new

pub returns-clause-changes : goal.returns-clause-changes
returns-clause-changes c = thing_changed

pub returns-clause-goes : goal.returns-clause-goes
returns-clause-goes c = thing_gone
