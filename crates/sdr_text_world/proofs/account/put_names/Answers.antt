use Rattle.std.proofs.Common.{arith}
use Rattle.sdr_buffer.proofs.WaitingLemmas.{grows_more}
use Rattle.sdr_text.proofs.TextLemmas.{on_err}
use Rattle.sdr_text.proofs.PartLemmas.{next_part, next_whole}
use Rattle.sdr_text_world.specs.AccountText.{name_line}
use Rattle.sdr_text_world.proofs.account.put_names.Goals as goal

pub loop-entry-preserved : goal.loop-entry-preserved
loop-entry-preserved g c = record {
  goes =
      next_whole name_line _ _ _ c.args.entries.now
      c.in-Some.ensures.cases.0 c.loop-entry.invariant.goes c.in_ok-put.ensures.ok;
  grows = grows_more _ _ _ c.loop-entry.invariant.grows c.put.ensures.grows;
  later = omega (arith, c.loop-entry.invariant.later, c.put.ensures.cause.later);
}

pub returns-in_err-put-clause-err : goal.returns-in_err-put-clause-err
returns-in_err-put-clause-err g c =
    on_err _
    (next_part name_line _ _ _ c.args.entries.now
    c.in-Some.ensures.cases.0 c.loop-entry.invariant.goes c.in_err-put.ensures.err)

pub returns-in_err-put-clause-grows : goal.returns-in_err-put-clause-grows
returns-in_err-put-clause-grows g c = grows_more _ _ _ c.loop-entry.invariant.grows c.put.ensures.grows
