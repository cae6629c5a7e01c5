use Rattle.std.proofs.Common.{arith}
use Rattle.sdr_buffer.proofs.WaitingLemmas.{grows_more}
use Rattle.sdr_text.proofs.TextLemmas.{on_err}
use Rattle.sdr_text.proofs.PartLemmas.{next_part, next_whole}
use Rattle.sdr_text_world.specs.AccountText.{ticket_line}
use Rattle.sdr_text_world.proofs.account.put_tickets.Goals as goal

pub loop-ticket-preserved : goal.loop-ticket-preserved
loop-ticket-preserved g c = record {
  goes =
      next_whole (ticket_line c.args.acct) _ _ _ c.args.tickets.now
      c.in-Some.ensures.cases.0 c.loop-ticket.invariant.goes c.in_ok-put.ensures.ok;
  grows = grows_more _ _ _ c.loop-ticket.invariant.grows c.put.ensures.grows;
  later = omega (arith, c.loop-ticket.invariant.later, c.put.ensures.cause.later);
}

pub returns-in_err-put-clause-err : goal.returns-in_err-put-clause-err
returns-in_err-put-clause-err g c =
    on_err _
    (next_part (ticket_line c.args.acct) _ _ _ c.args.tickets.now
    c.in-Some.ensures.cases.0 c.loop-ticket.invariant.goes c.in_err-put.ensures.err)

pub returns-in_err-put-clause-grows : goal.returns-in_err-put-clause-grows
returns-in_err-put-clause-grows g c = grows_more _ _ _ c.loop-ticket.invariant.grows c.put.ensures.grows
