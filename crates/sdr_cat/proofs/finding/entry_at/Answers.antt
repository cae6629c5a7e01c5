-- The entries are counted.
use Rattle.std.proofs.Common.{arith, rules}
use Rattle.sdr_base.proofs.WritingLemmas.{reaches_less}
use Rattle.sdr_cat.proofs.EntryLemmas.{counts, counts_none, starts, steps_on}
use Rattle.sdr_base.proofs.WorksLemmas.{looks_on}
use Rattle.sdr_cat.proofs.WalkLemmas.{reaches_here}
use Rattle.sdr_cat.proofs.finding.entry_at.Goals as goal

pub loop-i-init : goal.loop-i-init
loop-i-init g c = record {
  steps = starts c.in_ok-addr.ensures.given;
  looks = search rules;
}

pub returns-then-addr-eq0-clause-given : goal.returns-then-addr-eq0-clause-given
returns-then-addr-eq0-clause-given g c =
    counts_none c.loop-i.invariant.steps c.if-addr-eq0.true (omega arith)

pub word-requires-clause-inside : goal.word-requires-clause-inside
word-requires-clause-inside g c =
    rw c.loop-i.invariant.looks.same
    (reaches_less _ 56 _ (reaches_here c.requires.names c.loop-i.invariant.steps.walks c.if-addr-eq0.false) (omega arith))

pub loop-i-preserved : goal.loop-i-preserved
loop-i-preserved g c = record {
  steps = steps_on c.loop-i.invariant.steps c.if-addr-eq0.false (rw c.loop-i.invariant.looks.same at c.in_ok-addr-2.ensures.given);
  looks = looks_on c.loop-i.invariant.looks c.in_ok-addr-2.ensures.looks;
}

pub returns-clause-given : goal.returns-clause-given
returns-clause-given g c = counts c.loop-i.invariant.steps (omega arith)
