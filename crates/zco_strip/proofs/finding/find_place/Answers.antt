-- The chain is walked to the place, or to its end.
use Rattle.std.proofs.Common.{arith}
use Rattle.sdr_base.proofs.WorksLemmas.{looks_ok, looks_on}
use Rattle.zco_strip.proofs.FindLemmas.{extent_there, walk_begun, walk_ends, walk_most, walk_on, walk_stops}
use Rattle.zco_strip.proofs.finding.find_place.Goals as goal

pub loop-i-init : goal.loop-i-init
loop-i-init g c = record {
  walks = walk_begun _ c.args.first c.args.place;
  looks = looks_ok c.in_ok-check_failed.ensures.looks;
}

pub see_extent-requires-clause-extent : goal.see_extent-requires-clause-extent
see_extent-requires-clause-extent g c =
    rw c.loop-i.invariant.looks.same (extent_there c.loop-i.invariant.walks c.if-extent-eq0.false c.requires.chain.is)

pub loop-i-preserved : goal.loop-i-preserved
loop-i-preserved g c = record {
  walks =
      walk_on c.loop-i.invariant.walks c.in_ok-seen.seen c.if-extent-eq0.false
      (rw c.loop-i.invariant.looks.same at c.in_ok-seen.ensures.seen) c.if-inside-seen.false;
  looks = looks_on c.loop-i.invariant.looks c.in_ok-seen.ensures.looks;
}

pub returns-after-loop-i-clause-found : goal.returns-after-loop-i-clause-found
returns-after-loop-i-clause-found g c = walk_most c.loop-i.invariant.walks (omega arith)

pub returns-then-extent-eq0-clause-found : goal.returns-then-extent-eq0-clause-found
returns-then-extent-eq0-clause-found g c = walk_ends c.loop-i.invariant.walks c.if-extent-eq0.true

pub returns-then-inside-seen-clause-found : goal.returns-then-inside-seen-clause-found
returns-then-inside-seen-clause-found g c =
    walk_stops c.loop-i.invariant.walks c.in_ok-seen.seen c.if-extent-eq0.false
    (rw c.loop-i.invariant.looks.same at c.in_ok-seen.ensures.seen) c.if-inside-seen.true
