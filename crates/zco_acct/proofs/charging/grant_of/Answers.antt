-- The ticket is found and granted, or not.
use Rattle.zco_acct.proofs.RefusalLemmas.{grants_found, grants_none, no_ticket, not_granted}
use Rattle.zco_acct.proofs.charging.grant_of.Goals as goal

pub returns-then-number-eq0-clause-granted : goal.returns-then-number-eq0-clause-granted
returns-then-number-eq0-clause-granted g c = grants_none c.if-number-eq0.true

pub returns-in-None-clause-refused : goal.returns-in-None-clause-refused
returns-in-None-clause-refused g c =
    no_ticket c.if-number-eq0.false (rw (c.check_failed.ensures.looks.same, c.in-None.is) at c.in_ok-search.ensures.found)

pub returns-in-Some-clause-granted : goal.returns-in-Some-clause-granted
returns-in-Some-clause-granted g c =
    grants_found c.in-Some.found c.if-number-eq0.false
    (rw (c.check_failed.ensures.looks.same, c.in-Some.is) at c.in_ok-search.ensures.found) c.if-found.true

pub returns-in-Some-2-clause-refused : goal.returns-in-Some-2-clause-refused
returns-in-Some-2-clause-refused g c =
    not_granted c.in-Some.found c.if-number-eq0.false
    (rw (c.check_failed.ensures.looks.same, c.in-Some.is) at c.in_ok-search.ensures.found) c.if-found.false
