-- A ticket is there, or it isn't.
use Rattle.sdr_base.specs.declared.account.Acct.TheVariants as accts
use Rattle.step_zco.proofs.AwardCalls.{sees_none, sees_some}
use Rattle.step_zco.proofs.ComingLemmas.{queues_kept}
use Rattle.step_zco.proofs.tickets.look.Goals as goal

pub find_ticket-requires-clause-inbound : goal.find_ticket-requires-clause-inbound
find_ticket-requires-clause-inbound g c = queues_kept c.requires.stands.stands c.requires.stands.ready accts.Inbound

pub find_ticket-requires-clause-outbound : goal.find_ticket-requires-clause-outbound
find_ticket-requires-clause-outbound g c = queues_kept c.requires.stands.stands c.requires.stands.ready accts.Outbound

pub returns-in-None-clause-seen : goal.returns-in-None-clause-seen
returns-in-None-clause-seen g c = sees_none (rw c.in-None.is at c.in_ok-find_ticket.ensures.found)

pub returns-in-Some-clause-seen : goal.returns-in-Some-clause-seen
returns-in-Some-clause-seen g c =
    let s = rw c.in-Some.is at c.in_ok-find_ticket.ensures.found in
    sees_some c.in-Some.standing.acct c.in-Some.standing.found s
