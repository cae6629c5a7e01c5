use Rattle.std.proofs.Common.{arith}
use Rattle.sdr_buffer.proofs.WaitingLemmas.{grows_more}
use Rattle.sdr_text.proofs.TextLemmas.{on_err}
use Rattle.sdr_text_journal.proofs.JournalLemmas.{entries_out, entries_part}
use Rattle.sdr_text_journal.proofs.journal.put_journal.Goals as goal

pub loop-rest-preserved : goal.loop-rest-preserved
loop-rest-preserved g c = record {
  goes =
      entries_out _ _ _ _ _ _ _ 1 c.split_at.ensures.front c.split_at.ensures.back c.loop-rest.invariant.goes
      c.in_ok-put.ensures.ok;
  grows = grows_more _ _ _ c.loop-rest.invariant.grows c.put.ensures.grows;
  later = omega (arith, c.loop-rest.invariant.later, c.put.ensures.cause.later);
}

pub returns-in_err-put-clause-err : goal.returns-in_err-put-clause-err
returns-in_err-put-clause-err g c =
    on_err _
    (entries_part _ _ _ _ _ _ _ 1 c.split_at.ensures.front c.split_at.ensures.back c.loop-rest.invariant.goes
    c.in_err-put.ensures.err)

pub returns-in_err-put-clause-grows : goal.returns-in_err-put-clause-grows
returns-in_err-put-clause-grows g c = grows_more _ _ _ c.loop-rest.invariant.grows c.put.ensures.grows
