-- The chain is walked, and its pieces are named one by one.
use Rattle.std.proofs.Common.{arith}
use Rattle.std.proofs.lemmas.Result.{err_from_is_err_and}
use Rattle.sdr_base.proofs.WorksLemmas.{looks_then, looks_works, works_more, works_ok, works_stopped, works_then}
use Rattle.zco_part.proofs.CopyLemmas.{copies_all, copies_many, copy_begun, copy_on, copy_stops, extent_there, lines_most, lines_with, moves_so_far, moves_with, pair_there, room_there}
use Rattle.zco_part.proofs.copying.copy_chain.Goals as goal

pub loop-i-init : goal.loop-i-init
loop-i-init g c = record {
  goes = rw c.check_failed.ensures.looks.same (copy_begun c.args.copy c.args.first c.args.span _);
  works = works_more (works_ok (looks_works c.in_ok-check_failed.ensures.looks)) (omega arith);
}

pub see_link-requires-clause-extent : goal.see_link-requires-clause-extent
see_link-requires-clause-extent g c = extent_there c.loop-i.invariant.goes c.if-extent-eq0.false c.requires.chain

pub returns-in_err-link-clause-works : goal.returns-in_err-link-clause-works
returns-in_err-link-clause-works g c =
    let p = err_from_is_err_and c.from_residual-in_err-link.result c.from_residual-in_err-link.ensures.1 in
    λ acct extents sources k. let n = lines_most c.loop-i.invariant.goes k in
    rw (p.1, p.2)
    (works_stopped _ (works_more (works_then c.loop-i.invariant.works (looks_works c.in_err-link.ensures.looks)) (omega (arith, n))))

pub name_piece-requires-clause-spare : goal.name_piece-requires-clause-spare
name_piece-requires-clause-spare g c =
    rw c.see_link.ensures.looks.same
    (room_there c.loop-i.invariant.goes c.in_ok-link.link c.cut.result c.if-extent-eq0.false c.in_ok-link.ensures.seen c.cut.ensures.cut
    c.requires.chain)

pub name_piece-requires-clause-some : goal.name_piece-requires-clause-some
name_piece-requires-clause-some g c =
    rw c.see_link.ensures.looks.same
    (pair_there c.loop-i.invariant.goes c.in_ok-link.link c.cut.result c.if-extent-eq0.false c.in_ok-link.ensures.seen c.cut.ensures.cut
    c.requires.chain)

pub returns-in_err-name_piece-clause-refused : goal.returns-in_err-name_piece-clause-refused
returns-in_err-name_piece-clause-refused g c =
    let p = err_from_is_err_and c.from_residual-in_err-name_piece.result c.from_residual-in_err-name_piece.ensures.1 in
    rw (p.1, p.2)
    (copy_stops c.loop-i.invariant.goes c.in_ok-link.link c.cut.result c.if-extent-eq0.false c.in_ok-link.ensures.seen c.cut.ensures.cut
    (g.O.HasHeap.heap c.name_piece.new.o) _ (rw c.see_link.ensures.looks.same at c.in_err-name_piece.ensures.refused))

pub returns-in_err-name_piece-clause-works : goal.returns-in_err-name_piece-clause-works
returns-in_err-name_piece-clause-works g c =
    let p = err_from_is_err_and c.from_residual-in_err-name_piece.result c.from_residual-in_err-name_piece.ensures.1 in
    λ acct extents sources k.
    let n = lines_with c.loop-i.invariant.goes c.in_ok-link.link c.cut.result c.if-extent-eq0.false c.in_ok-link.ensures.seen c.cut.ensures.cut k in
    rw (p.1, p.2)
    (works_stopped _
    (works_more (works_then c.loop-i.invariant.works (looks_then c.in_ok-link.ensures.looks c.in_err-name_piece.ensures.works)) n))

pub loop-i-preserved : goal.loop-i-preserved
loop-i-preserved g c =
    let l = c.loop-i.invariant.goes in
    let named = rw c.see_link.ensures.looks.same at c.in_ok-name_piece.ensures.named in
    let w = moves_with l c.in_ok-link.link c.cut.result c.if-extent-eq0.false c.in_ok-link.ensures.seen c.cut.ensures.cut
    (g.O.HasHeap.heap c.name_piece.new.o) named in
    let s = moves_so_far l in
    record {
      goes =
          copy_on l c.in_ok-link.link c.cut.result c.if-extent-eq0.false c.in_ok-link.ensures.seen c.cut.ensures.cut c.later-left.result
          c.later-left.ensures.from c.later-left.ensures.to named;
      works =
          works_ok
          (works_more (works_then c.loop-i.invariant.works (looks_then c.in_ok-link.ensures.looks c.in_ok-name_piece.ensures.works))
          (omega (arith, w, s)));
    }

pub returns-after-loop-i-clause-copied : goal.returns-after-loop-i-clause-copied
returns-after-loop-i-clause-copied g c = copies_many c.loop-i.invariant.goes (omega arith)

pub returns-after-loop-i-clause-works : goal.returns-after-loop-i-clause-works
returns-after-loop-i-clause-works g c =
    λ acct extents sources k. works_ok (works_more c.loop-i.invariant.works (lines_most c.loop-i.invariant.goes k))

pub returns-then-extent-eq0-clause-copied : goal.returns-then-extent-eq0-clause-copied
returns-then-extent-eq0-clause-copied g c = copies_all c.loop-i.invariant.goes c.if-extent-eq0.true

pub returns-then-extent-eq0-clause-works : goal.returns-then-extent-eq0-clause-works
returns-then-extent-eq0-clause-works g c =
    λ acct extents sources k. works_ok (works_more c.loop-i.invariant.works (lines_most c.loop-i.invariant.goes k))
