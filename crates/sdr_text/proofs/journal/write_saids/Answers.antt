use Rattle.std.proofs.Common.{arith}
use Rattle.sdr_text.proofs.PartLemmas.{next_part, next_whole}
use Rattle.sdr_text.proofs.TextLemmas.{on_err}
use Rattle.sdr_text.specs.JournalText.{said_line}
use Rattle.sdr_text.proofs.journal.write_saids.Goals as goal

pub loop-one-preserved : goal.loop-one-preserved
loop-one-preserved g c = record {
  goes =
      next_whole said_line _ _ _ c.args.said.now
      c.in-Some.ensures.cases.0 c.loop-one.invariant.goes c.in_ok-write_said.ensures.ok;
  later = omega (arith, c.loop-one.invariant.later, c.write_said.ensures.cause.later);
}

pub returns-in_err-write_said-clause-err : goal.returns-in_err-write_said-clause-err
returns-in_err-write_said-clause-err g c =
    on_err _
    (next_part said_line _ _ _ c.args.said.now
    c.in-Some.ensures.cases.0 c.loop-one.invariant.goes c.in_err-write_said.ensures.err)
