use Rattle.sdr_base.proofs.SectionLemmas.{section-change, section-gone, section-new}
use Rattle.sdr_stands.proofs.parts.things_change.Goals as goal
use Rattle.sdr_stands.specs.Standing.{thing_entries}

pub returns-clause-comes : goal.returns-clause-comes
returns-clause-comes c = λ ties all addr thing none. section-new (thing_entries ties) all addr thing none

pub returns-clause-changes : goal.returns-clause-changes
returns-clause-changes c = λ ties all addr thing other is. section-change (thing_entries ties) all addr thing other is

pub returns-clause-goes : goal.returns-clause-goes
returns-clause-goes c = λ ties all addr thing is. section-gone (thing_entries ties) all addr thing is
