-- The ticket of the number is found, or there is none.
use Rattle.zco_space.proofs.RequestLemmas.{told_found, told_none}
use Rattle.zco_space.proofs.requesting.is_granted.Goals as goal

pub returns-in-Some-clause-told : goal.returns-in-Some-clause-told
returns-in-Some-clause-told g c = told_found c.in-Some.found (rw c.in-Some.is at c.in_ok-found.ensures.found)

pub returns-in-None-clause-told : goal.returns-in-None-clause-told
returns-in-None-clause-told g c = told_none (rw c.in-None.is at c.in_ok-found.ensures.found)
