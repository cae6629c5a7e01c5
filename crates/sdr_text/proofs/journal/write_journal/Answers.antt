use Rattle.std.proofs.Common.{arith}
use Rattle.sdr_text.proofs.PartLemmas.{next_part, next_whole}
use Rattle.sdr_text.proofs.TextLemmas.{on_err}
use Rattle.sdr_text.specs.JournalText.{entry_text}
use Rattle.sdr_text.proofs.journal.write_journal.Goals as goal

pub loop-entry-preserved : goal.loop-entry-preserved
loop-entry-preserved g c = record {
  goes =
      next_whole entry_text _ _ _ c.args.journal.now
      c.in-Some.ensures.cases.0 c.loop-entry.invariant.goes c.in_ok-write_one.ensures.ok;
  later = omega (arith, c.loop-entry.invariant.later, c.write_one.ensures.cause.later);
}

pub returns-in_err-write_one-clause-err : goal.returns-in_err-write_one-clause-err
returns-in_err-write_one-clause-err g c =
    on_err _
    (next_part entry_text _ _ _ c.args.journal.now
    c.in-Some.ensures.cases.0 c.loop-entry.invariant.goes c.in_err-write_one.ensures.err)
