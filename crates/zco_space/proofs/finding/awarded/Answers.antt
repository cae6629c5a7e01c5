-- The ticket is granted, or it waits, or there is none.
use Rattle.zco_space.proofs.FindLemmas.{awarded, no_ticket, not_awarded}
use Rattle.zco_space.proofs.finding.awarded.Goals as goal

pub returns-in-None-clause-refused : goal.returns-in-None-clause-refused
returns-in-None-clause-refused g c = no_ticket (rw c.in-None.is at c.in_ok-find_ticket.ensures.found)

pub returns-in-Some-clause-awarded : goal.returns-in-Some-clause-awarded
returns-in-Some-clause-awarded g c =
    awarded c.in-Some.standing.acct c.in-Some.standing.found (rw c.in-Some.is at c.in_ok-find_ticket.ensures.found)
    c.if-standing.true

pub returns-in-Some-2-clause-refused : goal.returns-in-Some-2-clause-refused
returns-in-Some-2-clause-refused g c =
    not_awarded c.in-Some.standing.acct c.in-Some.standing.found (rw c.in-Some.is at c.in_ok-find_ticket.ensures.found)
    c.if-standing.false
