-- The bytes of the block say the ticket.
use Rattle.zco_acct.proofs.TicketLemmas.{coarse_small, fine_small, tells, ticket_reaches}
use Rattle.zco_acct.proofs.ticket.read_ticket.Goals as goal

pub get-requires-clause-inside : goal.get-requires-clause-inside
get-requires-clause-inside g c = ticket_reaches c.requires.ticket

pub decoded-requires-clause-coarse : goal.decoded-requires-clause-coarse
decoded-requires-clause-coarse g c = coarse_small c.get.new.into c.requires.ticket c.in_ok-get.ensures.given

pub decoded-requires-clause-fine : goal.decoded-requires-clause-fine
decoded-requires-clause-fine g c = fine_small c.get.new.into c.requires.ticket c.in_ok-get.ensures.given

pub returns-clause-told : goal.returns-clause-told
returns-clause-told g c = tells c.get.new.into c.in_ok-get.ensures.given c.decoded.ensures
