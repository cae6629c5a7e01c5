-- The chain is walked to its end.
use Rattle.std.proofs.Common.{arith}
use Rattle.sdr_base.proofs.WorksLemmas.{looks_ok, looks_on}
use Rattle.zco_obj.proofs.WalkLemmas.{capsule_reaches, one_keeps, one_last, one_most, one_on, one_starts}
use Rattle.zco_obj.proofs.seeing.find_last.Goals as goal

pub loop-i-init : goal.loop-i-init
loop-i-init g c = record {
  walks = one_starts c.requires.some;
  looks = looks_ok c.in_ok-check_failed.ensures.looks;
}

pub word-requires-clause-inside : goal.word-requires-clause-inside
word-requires-clause-inside g c =
    rw c.loop-i.invariant.looks.same (capsule_reaches (one_keeps c.loop-i.invariant.walks c.requires.chain.is))

pub loop-i-preserved : goal.loop-i-preserved
loop-i-preserved g c = record {
  walks =
      one_on c.loop-i.invariant.walks c.if-next-eq0.false (rw c.loop-i.invariant.looks.same at c.in_ok-next.ensures.given);
  looks = looks_on c.loop-i.invariant.looks c.in_ok-next.ensures.looks;
}

pub returns-after-loop-i-clause-found : goal.returns-after-loop-i-clause-found
returns-after-loop-i-clause-found g c = one_most c.loop-i.invariant.walks (omega arith)

pub returns-then-next-eq0-clause-found : goal.returns-then-next-eq0-clause-found
returns-then-next-eq0-clause-found g c =
    one_last c.loop-i.invariant.walks (rw c.loop-i.invariant.looks.same at c.in_ok-next.ensures.given) c.if-next-eq0.true
