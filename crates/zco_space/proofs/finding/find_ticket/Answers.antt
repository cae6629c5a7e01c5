-- The inbound queue is searched, and then the outbound one.
use Rattle.zco_space.proofs.FindLemmas.{stands_inbound, stands_outbound}
use Rattle.zco_space.proofs.finding.find_ticket.Goals as goal

pub returns-in-Some-clause-found : goal.returns-in-Some-clause-found
returns-in-Some-clause-found g c = stands_inbound c.in-Some.found (rw c.in-Some.is at c.in_ok-found.ensures.found)

pub returns-in-None-clause-found : goal.returns-in-None-clause-found
returns-in-None-clause-found g c = record {
  inbound = rw c.in_default.is at c.in_ok-found.ensures.found;
  outbound = rw (c.search.ensures.looks.same, c.in-None.is) at c.in_ok-search.ensures.found;
}

pub returns-in-Some-2-clause-found : goal.returns-in-Some-2-clause-found
returns-in-Some-2-clause-found g c =
    stands_outbound c.in-Some-2.found (rw c.in_default.is at c.in_ok-found.ensures.found)
    (rw (c.search.ensures.looks.same, c.in-Some-2.is) at c.in_ok-search.ensures.found)
