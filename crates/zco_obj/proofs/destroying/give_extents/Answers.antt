-- The extents go one by one.
use Rattle.std.proofs.Common.{arith, refl}
use Rattle.std.proofs.lemmas.Result.{err_from_is_err_and}
use Rattle.sdr_base.proofs.WorksLemmas.{looks_works, works_more, works_ok, works_stopped, works_then}
use Rattle.zco_obj.proofs.ExtentsGoneLemmas.{extent_room, extent_stops, extent_there, extents_all, extents_begun, extents_many, extents_on, lines_most, lines_next, moves_so_far, moves_with}
use Rattle.zco_obj.proofs.SpotLemmas.{at_most_both}
use Rattle.zco_obj.proofs.destroying.give_extents.Goals as goal

pub loop-i-init : goal.loop-i-init
loop-i-init g c = record {
  goes = rw c.check_failed.ensures.looks.same (extents_begun c.args.acct c.args.first _ _ refl);
  most = record { file = omega arith; bulk = omega arith; heap = omega arith };
  works = works_more (works_ok (looks_works c.in_ok-check_failed.ensures.looks)) (omega arith);
}

pub give_extent-requires-clause-kept : goal.give_extent-requires-clause-kept
give_extent-requires-clause-kept g c = c.loop-i.invariant.works.kept

pub give_extent-requires-clause-spare : goal.give_extent-requires-clause-spare
give_extent-requires-clause-spare g c = extent_room c.loop-i.invariant.goes c.if-extent-eq0.false c.requires.chain

pub give_extent-requires-clause-extent : goal.give_extent-requires-clause-extent
give_extent-requires-clause-extent g c = extent_there c.loop-i.invariant.goes c.if-extent-eq0.false c.requires.chain

pub returns-in_err-given-clause-refused : goal.returns-in_err-given-clause-refused
returns-in_err-given-clause-refused g c =
    let p = err_from_is_err_and c.from_residual-in_err-given.result c.from_residual-in_err-given.ensures.1 in
    rw (p.1, p.2)
    (extent_stops c.loop-i.invariant.goes (g.O.HasHeap.heap c.give_extent.new.o) _ c.if-extent-eq0.false c.in_err-given.ensures.refused)

pub returns-in_err-given-clause-works : goal.returns-in_err-given-clause-works
returns-in_err-given-clause-works g c =
    let p = err_from_is_err_and c.from_residual-in_err-given.result c.from_residual-in_err-given.ensures.1 in
    λ extents sources u. let n = lines_next c.loop-i.invariant.goes c.if-extent-eq0.false u in
    rw (p.1, p.2) (works_stopped _ (works_more (works_then c.loop-i.invariant.works c.in_err-given.ensures.works) n))

pub loop-i-preserved : goal.loop-i-preserved
loop-i-preserved g c =
    let e = c.plus-charged.ensures in
    let m = c.loop-i.invariant.most in
    let n = c.in_ok-given.ensures.most in
    let w = moves_with c.loop-i.invariant.goes c.in_ok-given.given c.if-extent-eq0.false c.requires.chain c.in_ok-given.ensures.given in
    let s = moves_so_far c.loop-i.invariant.goes c.requires.chain.is in
    record {
      goes =
          extents_on c.loop-i.invariant.goes c.in_ok-given.given c.plus-charged.result c.if-extent-eq0.false c.in_ok-given.ensures.given e;
      most = rw e (at_most_both c.loop-i.i m n);
      works = works_ok (works_more (works_then c.loop-i.invariant.works c.in_ok-given.ensures.works) (omega (arith, w, s)));
    }

pub returns-after-loop-i-clause-given : goal.returns-after-loop-i-clause-given
returns-after-loop-i-clause-given g c = extents_many c.loop-i.invariant.goes (omega arith)

pub returns-after-loop-i-clause-works : goal.returns-after-loop-i-clause-works
returns-after-loop-i-clause-works g c =
    λ extents sources u. let n = lines_most c.loop-i.invariant.goes u in works_ok (works_more c.loop-i.invariant.works n)

pub returns-then-extent-eq0-clause-given : goal.returns-then-extent-eq0-clause-given
returns-then-extent-eq0-clause-given g c = extents_all c.loop-i.invariant.goes c.if-extent-eq0.true

pub returns-then-extent-eq0-clause-works : goal.returns-then-extent-eq0-clause-works
returns-then-extent-eq0-clause-works g c =
    λ extents sources u. let n = lines_most c.loop-i.invariant.goes u in works_ok (works_more c.loop-i.invariant.works n)
