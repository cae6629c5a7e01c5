-- The headers or trailers go one by one.
use Rattle.std.proofs.Common.{arith}
use Rattle.std.proofs.lemmas.Result.{err_from_is_err_and}
use Rattle.sdr_base.proofs.WorksLemmas.{looks_works, works_more, works_ok, works_stopped, works_then}
use Rattle.zco_obj.proofs.CapsulesGoneLemmas.{capsule_below, capsule_room, capsule_stops, capsule_there, capsule_used, capsules_all, capsules_begun, capsules_many, capsules_most, capsules_on}
use Rattle.zco_obj.proofs.destroying.give_capsules.Goals as goal

pub loop-i-init : goal.loop-i-init
loop-i-init g c = record {
  goes = rw c.check_failed.ensures.looks.same (capsules_begun c.args.first _);
  most = omega arith;
  works = works_ok (looks_works c.in_ok-check_failed.ensures.looks);
}

pub see_capsule-requires-clause-capsule : goal.see_capsule-requires-clause-capsule
see_capsule-requires-clause-capsule g c = capsule_there c.loop-i.invariant.goes c.if-addr-eq0.false c.requires.chain

pub returns-in_err-seen-clause-works : goal.returns-in_err-seen-clause-works
returns-in_err-seen-clause-works g c =
    let p = err_from_is_err_and c.from_residual-in_err-seen.result c.from_residual-in_err-seen.ensures.1 in
    λ rows k. let n = capsules_most c.loop-i.invariant.goes k in
    rw (p.1, p.2)
    (works_stopped _ (works_more (works_then c.loop-i.invariant.works (looks_works c.in_err-seen.ensures.looks)) (omega (arith, n))))

pub give-requires-clause-spare : goal.give-requires-clause-spare
give-requires-clause-spare g c =
    rw c.see_capsule.ensures.looks.same (capsule_room c.loop-i.invariant.goes c.if-addr-eq0.false c.requires.chain)

pub give-requires-clause-used : goal.give-requires-clause-used
give-requires-clause-used g c =
    rw c.see_capsule.ensures.looks.same (capsule_used c.loop-i.invariant.goes c.if-addr-eq0.false c.requires.chain)

pub returns-in_err-give-clause-refused : goal.returns-in_err-give-clause-refused
returns-in_err-give-clause-refused g c =
    let p = err_from_is_err_and c.from_residual-in_err-give.result c.from_residual-in_err-give.ensures.1 in
    rw (p.1, p.2)
    (capsule_stops c.loop-i.invariant.goes (g.O.HasHeap.heap c.give.new.self) _ c.if-addr-eq0.false
    (rw c.see_capsule.ensures.looks.same at c.in_err-give.ensures.refused))

pub returns-in_err-give-clause-works : goal.returns-in_err-give-clause-works
returns-in_err-give-clause-works g c =
    let p = err_from_is_err_and c.from_residual-in_err-give.result c.from_residual-in_err-give.ensures.1 in
    λ rows k. let n = capsule_below c.loop-i.invariant.goes c.if-addr-eq0.false k in
    rw (p.1, p.2)
    (works_stopped _
    (works_more (works_then (works_then c.loop-i.invariant.works (looks_works c.in_ok-seen.ensures.looks)) c.in_err-give.ensures.works)
    (omega (arith, n))))

pub loop-i-preserved : goal.loop-i-preserved
loop-i-preserved g c =
    let b = c.capsule_bytes-charged.ensures in
    let m = c.loop-i.invariant.most in
    let s = c.in_ok-seen.ensures.short in
    record {
      goes =
          rw b
          (capsules_on c.loop-i.invariant.goes c.in_ok-seen.seen c.if-addr-eq0.false
          c.in_ok-seen.ensures.seen
          (rw c.see_capsule.ensures.looks.same at c.in_ok-give.ensures.given));
      most = omega (arith, b, m, s);
      works =
          works_ok
          (works_more (works_then (works_then c.loop-i.invariant.works (looks_works c.in_ok-seen.ensures.looks)) c.in_ok-give.ensures.works)
          (omega arith));
    }

pub returns-after-loop-i-clause-given : goal.returns-after-loop-i-clause-given
returns-after-loop-i-clause-given g c = capsules_many c.loop-i.invariant.goes (omega arith)

pub returns-after-loop-i-clause-works : goal.returns-after-loop-i-clause-works
returns-after-loop-i-clause-works g c =
    λ rows k. let n = capsules_most c.loop-i.invariant.goes k in works_ok (works_more c.loop-i.invariant.works (omega (arith, n)))

pub returns-then-addr-eq0-clause-given : goal.returns-then-addr-eq0-clause-given
returns-then-addr-eq0-clause-given g c = capsules_all c.loop-i.invariant.goes c.if-addr-eq0.true

pub returns-then-addr-eq0-clause-works : goal.returns-then-addr-eq0-clause-works
returns-then-addr-eq0-clause-works g c =
    λ rows k. let n = capsules_most c.loop-i.invariant.goes k in works_ok (works_more c.loop-i.invariant.works (omega (arith, n)))
