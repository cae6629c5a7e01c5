-- The chain is walked, and its pieces are counted.
use Rattle.std.proofs.Common.{arith, refl}
use Rattle.sdr_base.proofs.WorksLemmas.{looks_ok, looks_on}
use Rattle.zco_part.proofs.CountLemmas.{count_all, count_begun, count_many, count_on, extent_there}
use Rattle.zco_part.proofs.charging.count_pieces.Goals as goal

pub loop-i-init : goal.loop-i-init
loop-i-init g c = record {
  goes = count_begun _ c.args.first c.args.span;
  most = omega arith;
  looks = looks_ok c.in_ok-check_failed.ensures.looks;
}

pub see_link-requires-clause-extent : goal.see_link-requires-clause-extent
see_link-requires-clause-extent g c =
    rw c.loop-i.invariant.looks.same (extent_there c.loop-i.invariant.goes c.if-extent-eq0.false c.requires.chain)

pub loop-i-preserved : goal.loop-i-preserved
loop-i-preserved g c =
    let v = rw c.loop-i.invariant.looks.same at c.in_ok-link.ensures.seen in
    let most = c.loop-i.invariant.most in
    record {
      goes =
          count_on c.loop-i.invariant.goes c.in_ok-link.link c.cut.result c.extents_of-count.result _ c.later-left.result c.if-extent-eq0.false v
          c.cut.ensures.cut c.extents_of-count.ensures.counted refl c.later-left.ensures.from c.later-left.ensures.to;
      most = let one = c.extents_of-count.ensures.most in omega (arith, most, one);
      looks = looks_on c.loop-i.invariant.looks c.in_ok-link.ensures.looks;
    }

pub returns-after-loop-i-clause-told : goal.returns-after-loop-i-clause-told
returns-after-loop-i-clause-told g c = count_many c.loop-i.invariant.goes (omega arith)

pub returns-then-extent-eq0-clause-told : goal.returns-then-extent-eq0-clause-told
returns-then-extent-eq0-clause-told g c = count_all c.loop-i.invariant.goes c.if-extent-eq0.true
