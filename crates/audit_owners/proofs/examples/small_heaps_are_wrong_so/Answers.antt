use Rattle.std.proofs.Common.{inl, inr}
use Rattle.audit_owners.proofs.ExampleLemmas.{last_wrong, looping_wrong, lost_wrong, shared_wrong, unlinked_wrong}
use Rattle.audit_owners.proofs.examples.small_heaps_are_wrong_so.Goals as goal

pub returns-clause-shared : goal.returns-clause-shared
returns-clause-shared c = inl shared_wrong

pub returns-clause-looping : goal.returns-clause-looping
returns-clause-looping c = inl looping_wrong

pub returns-clause-unlinked : goal.returns-clause-unlinked
returns-clause-unlinked c = inl unlinked_wrong

pub returns-clause-last : goal.returns-clause-last
returns-clause-last c = inl last_wrong

pub returns-clause-lost : goal.returns-clause-lost
returns-clause-lost c = inr lost_wrong
