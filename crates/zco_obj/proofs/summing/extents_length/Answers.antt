-- The chain is walked, and its bytes are summed.
use Rattle.std.proofs.Common.{arith}
use Rattle.sdr_base.proofs.WorksLemmas.{looks_ok, looks_on}
use Rattle.zco_obj.proofs.SumLemmas.{extents_all, extents_most, extents_on, extents_start, some_extent}
use Rattle.zco_obj.proofs.summing.extents_length.Goals as goal

pub loop-i-init : goal.loop-i-init
loop-i-init g c = record {
  sums = extents_start _ c.args.first;
  most = omega arith;
  looks = looks_ok c.in_ok-check_failed.ensures.looks;
}

pub see_extent-requires-clause-extent : goal.see_extent-requires-clause-extent
see_extent-requires-clause-extent g c =
    rw c.loop-i.invariant.looks.same (some_extent c.loop-i.invariant.sums c.requires.chain.is c.if-addr-eq0.false)

pub loop-i-preserved : goal.loop-i-preserved
loop-i-preserved g c = record {
  sums =
      extents_on c.in_ok-seen.seen c.loop-i.invariant.sums c.if-addr-eq0.false
      (rw c.loop-i.invariant.looks.same at c.in_ok-seen.ensures.seen);
  most = let m = c.loop-i.invariant.most in let s = c.in_ok-seen.ensures.short in omega (arith, m, s);
  looks = looks_on c.loop-i.invariant.looks c.in_ok-seen.ensures.looks;
}

pub returns-after-loop-i-clause-told : goal.returns-after-loop-i-clause-told
returns-after-loop-i-clause-told g c = extents_most c.loop-i.invariant.sums (omega arith)

pub returns-then-addr-eq0-clause-told : goal.returns-then-addr-eq0-clause-told
returns-then-addr-eq0-clause-told g c = extents_all c.loop-i.invariant.sums c.if-addr-eq0.true
