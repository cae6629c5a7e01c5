-- One gap is filled after another.
use Rattle.std.proofs.Common.{◌≡◌, ◌≤◌, ◌<◌, [], ◌∷◌, length, sym, ap, arith, subst}
use Rattle.std.proofs.lemmas.Result.{err_from_is_err_and}
use Rattle.sdr_base.proofs.WorksLemmas.{looks_works, works_more, works_ok, works_stopped, works_then}
use Rattle.zco_pieces.specs.Adding.{FillsPart, KeepsToFill, SomeToFill, StopsPart, moves_to_fill}
use Rattle.zco_join.specs.declared.filled.Filled.{Filled}
use Rattle.zco_pieces.proofs.FillLemmas.{done_moves, fill_all, fill_behind, fill_begun, fill_kept, fill_next, fill_some, fill_stopped, moves_append, next_moves, next_part, none_filled, part_is}
use Rattle.zco_pieces.proofs.adding.fill_gaps.Goals as goal

-- no part
abbrev nothing : Filled
nothing = record { offset = 0; length = 0; object = 0 }

pub returns-in_err-check_failed-clause-refused : goal.returns-in_err-check_failed-clause-refused
returns-in_err-check_failed-clause-refused g c =
    let p = err_from_is_err_and c.from_residual.result c.from_residual.ensures.1 in
    rw (p.1, p.2)
    (none_filled c.args.piece.now.object c.args.ticket c.args.piece.now.offset c.args.parts.now (g.O.HasHeap.heap c.args.o.now)
    (g.O.HasHeap.heap c.check_failed.new.o) _ c.in_err-check_failed.ensures.refused)

pub returns-in_err-check_failed-clause-works : goal.returns-in_err-check_failed-clause-works
returns-in_err-check_failed-clause-works g c =
    let p = err_from_is_err_and c.from_residual.result c.from_residual.ensures.1 in
    λ row tickets sources k. rw (p.1, p.2) (works_stopped _ (works_more (looks_works c.in_err-check_failed.ensures.looks) (omega arith)))

pub loop-i-init : goal.loop-i-init
loop-i-init g c = record {
  goes =
      fill_begun c.args.piece.now.object c.args.ticket c.args.piece.now.offset c.args.parts.now (g.O.HasHeap.heap c.args.o.now)
      (g.O.HasHeap.heap c.check_failed.new.o) c.in_ok-check_failed.ensures.looks.same;
  works = λ row tickets sources k. works_more (works_ok (looks_works c.in_ok-check_failed.ensures.looks)) (omega arith);
}

pub slice_copy_out-fill_gap : goal.slice_copy_out-fill_gap
slice_copy_out-fill_gap g c = omega (arith, c.loop-i-test.true, c.loop-i.auto.parts)

pub fill_gap-requires-clause-kept : goal.fill_gap-requires-clause-kept
fill_gap-requires-clause-kept g c =
    let s = c.requires.object in (c.loop-i.invariant.works s.row s.tickets s.sources s.keeps).kept

pub fill_gap-requires-clause-object : goal.fill_gap-requires-clause-object
fill_gap-requires-clause-object g c =
    let more : c.loop-i.i < length c.loop-i.parts = omega (arith, c.loop-i-test.true, c.loop-i.auto.parts) in
    subst (λ (p : Filled). SomeToFill (g.O.HasHeap.heap c.loop-i.o) c.args.piece.now.object c.args.piece.now.offset (p ∷ []))
    (sym (part_is c.loop-i.invariant.goes more nothing)) (fill_some c.loop-i.invariant.goes more c.requires.object)

pub fill_gap-requires-clause-behind : goal.fill_gap-requires-clause-behind
fill_gap-requires-clause-behind g c =
    let more : c.loop-i.i < length c.loop-i.parts = omega (arith, c.loop-i-test.true, c.loop-i.auto.parts) in
    subst (λ (p : Filled). p.object ≡ 0 → c.args.piece.now.offset ≤ p.offset)
    (sym (part_is c.loop-i.invariant.goes more nothing)) (fill_behind c.loop-i.invariant.goes more c.requires.behind)

pub returns-in_err-parts-clause-refused : goal.returns-in_err-parts-clause-refused
returns-in_err-parts-clause-refused g c =
    let p = err_from_is_err_and c.from_residual-in_err-parts.result c.from_residual-in_err-parts.ensures.1 in
    let more : c.loop-i.i < length c.loop-i.parts = omega (arith, c.loop-i-test.true, c.loop-i.auto.parts) in
    rw (p.1, p.2)
    (fill_stopped c.loop-i.invariant.goes more (g.O.HasHeap.heap c.fill_gap.new.o) _
    (subst (λ (x : Filled). StopsPart c.args.piece.now.object c.args.ticket c.args.piece.now.offset x (g.O.HasHeap.heap c.loop-i.o)
    (g.O.HasHeap.heap c.fill_gap.new.o) c.in_err-parts.field-0.0) (part_is c.loop-i.invariant.goes more nothing) c.in_err-parts.ensures.refused))

pub returns-in_err-parts-clause-works : goal.returns-in_err-parts-clause-works
returns-in_err-parts-clause-works g c =
    let p = err_from_is_err_and c.from_residual-in_err-parts.result c.from_residual-in_err-parts.ensures.1 in
    let l = c.loop-i.invariant.goes in
    let more : c.loop-i.i < length c.loop-i.parts = omega (arith, c.loop-i-test.true, c.loop-i.auto.parts) in
    λ row tickets sources k.
    let one = fill_kept l more k in
    let here = subst (λ (x : Filled). KeepsToFill (g.O.HasHeap.heap c.loop-i.o) c.args.piece.now.object c.args.piece.now.offset (x ∷ []) row one.0 one.1)
    (sym (part_is l more nothing)) one.2 in
    let n = next_moves l more row in
    let e = ap (λ (x : Filled). moves_to_fill c.args.piece.now.offset row (x ∷ [])) (part_is l more nothing) in
    rw (p.1, p.2)
    (works_stopped _
    (works_more (works_then (c.loop-i.invariant.works row tickets sources k) (c.in_err-parts.ensures.works row one.0 one.1 here)) (omega (arith, n, e))))

pub loop-i-preserved : goal.loop-i-preserved
loop-i-preserved g c =
    let l = c.loop-i.invariant.goes in
    let more : c.loop-i.i < length c.loop-i.parts = omega (arith, c.loop-i-test.true, c.loop-i.auto.parts) in
    record {
      goes =
          fill_next l more c.in_ok-parts.field-0 (g.O.HasHeap.heap c.fill_gap.new.o)
          (subst (λ (x : Filled). FillsPart c.args.piece.now.object c.args.ticket c.args.piece.now.offset x c.in_ok-parts.field-0
          (g.O.HasHeap.heap c.loop-i.o) (g.O.HasHeap.heap c.fill_gap.new.o)) (part_is l more nothing) c.in_ok-parts.ensures.filled);
      works = λ row tickets sources k.
          let one = fill_kept l more k in
          let here = subst (λ (x : Filled). KeepsToFill (g.O.HasHeap.heap c.loop-i.o) c.args.piece.now.object c.args.piece.now.offset (x ∷ []) row one.0 one.1)
          (sym (part_is l more nothing)) one.2 in
          let a = moves_append c.args.piece.now.offset row l.done ((next_part l more).0 ∷ []) in
          let e = ap (λ (x : Filled). moves_to_fill c.args.piece.now.offset row (x ∷ [])) (part_is l more nothing) in
          works_ok
          (works_more (works_then (c.loop-i.invariant.works row tickets sources k) (c.in_ok-parts.ensures.works row one.0 one.1 here)) (omega (arith, a, e)));
    }

pub returns-clause-filled : goal.returns-clause-filled
returns-clause-filled g c = fill_all c.loop-i.invariant.goes (omega (arith, c.loop-i-test.false, c.loop-i.auto.parts))

pub returns-clause-works : goal.returns-clause-works
returns-clause-works g c =
    λ row tickets sources k.
    let d = done_moves c.loop-i.invariant.goes row in
    works_ok (works_more (c.loop-i.invariant.works row tickets sources k) (omega (arith, d)))
