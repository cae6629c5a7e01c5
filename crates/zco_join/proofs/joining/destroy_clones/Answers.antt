-- One clone goes after another.
use Rattle.std.proofs.Common.{List, refl, sym, subst, arith}
use Rattle.std.proofs.lemmas.Result.{err_from_is_err_and}
use Rattle.sdr_base.proofs.WorksLemmas.{looks_works, works_more, works_ok, works_stopped}
use Rattle.zco_obj.specs.Destroying.{DestroysObject, DestroyStops, SomeWithSources}
use Rattle.zco_join.specs.declared.filled.Filled.{Filled}
use Rattle.zco_join.proofs.DestroyedLemmas.{Went, destroyed_all, destroyed_next, destroyed_none, destroyed_stopped, lines_few, lines_then, went_more, went_none, went_spends, went_with}
use Rattle.zco_join.proofs.PassedLemmas.{next_part, passed_is}
use Rattle.zco_join.proofs.joining.destroy_clones.Goals as goal

-- no part
abbrev nothing : Filled
nothing = record { offset = 0; length = 0; object = 0 }

pub loop-part-init : goal.loop-part-init
loop-part-init g c = record {
  goes = destroyed_none c.args.parts.now (g.O.HasHeap.heap c.args.o.now) (g.O.HasHeap.heap c.check_failed.new.o) c.in_ok-check_failed.ensures.looks.same;
  works = λ d k. (0, went_none c.in_ok-check_failed.ensures.looks.same k, works_ok (looks_works c.in_ok-check_failed.ensures.looks));
}

pub destroy-requires-clause-object : goal.destroy-requires-clause-object
destroy-requires-clause-object g c kind =
    let l = c.loop-part.invariant.goes in
    let n = next_part l.passed c.loop-part-test.true in
    let w = c.loop-part.invariant.works c.requires.clones.doomed c.requires.clones.keeps in
    let now = g.O.HasHeap.heap c.loop-part.o in
    subst (λ (p : Filled). SomeWithSources now p.object) (sym (passed_is l.passed c.loop-part-test.true nothing))
    (went_with (subst (λ (ps : List Filled). Went c.requires.clones.doomed ps (g.O.HasHeap.heap c.args.o.now) now w.0) n.2 w.1))

pub returns-in_err-destroy-clause-refused : goal.returns-in_err-destroy-clause-refused
returns-in_err-destroy-clause-refused g c =
    let p = err_from_is_err_and c.from_residual-in_err-destroy.result c.from_residual-in_err-destroy.ensures.1 in
    let l = c.loop-part.invariant.goes in
    rw (p.1, p.2)
    (destroyed_stopped l c.loop-part-test.true (g.O.HasHeap.heap c.destroy.new.o) _
    (subst (λ (x : Filled). DestroyStops x.object (g.O.HasHeap.heap c.loop-part.o) (g.O.HasHeap.heap c.destroy.new.o) c.in_err-destroy.field-0.0)
    (passed_is l.passed c.loop-part-test.true nothing) c.in_err-destroy.ensures.refused))

pub returns-in_err-destroy-clause-works : goal.returns-in_err-destroy-clause-works
returns-in_err-destroy-clause-works g c =
    let p = err_from_is_err_and c.from_residual-in_err-destroy.result c.from_residual-in_err-destroy.ensures.1 in
    let l = c.loop-part.invariant.goes in
    let n = next_part l.passed c.loop-part-test.true in
    λ d k.
    let w = c.loop-part.invariant.works d k in
    let here = subst (λ (ps : List Filled). Went d ps (g.O.HasHeap.heap c.args.o.now) (g.O.HasHeap.heap c.loop-part.o) w.0) n.2 w.1 in
    rw (p.1, p.2)
    (works_stopped _
    (works_more (went_spends here refl w.2 (rw (passed_is l.passed c.loop-part-test.true nothing) at c.in_err-destroy.ensures.works)) (lines_few here)))

pub loop-part-preserved : goal.loop-part-preserved
loop-part-preserved g c =
    let l = c.loop-part.invariant.goes in
    let n = next_part l.passed c.loop-part-test.true in
    let new = g.O.HasHeap.heap c.destroy.new.o in
    let goes : DestroysObject n.0.object (g.O.HasHeap.heap c.loop-part.o) new =
    subst (λ (x : Filled). DestroysObject x.object (g.O.HasHeap.heap c.loop-part.o) new) (passed_is l.passed c.loop-part-test.true nothing)
    c.in_ok-destroy.ensures.destroyed in
    record {
      goes = destroyed_next l c.loop-part-test.true new goes;
      works = λ d k.
          let w = c.loop-part.invariant.works d k in
          let here = subst (λ (ps : List Filled). Went d ps (g.O.HasHeap.heap c.args.o.now) (g.O.HasHeap.heap c.loop-part.o) w.0) n.2 w.1 in (
            lines_then here,
            went_more here goes,
            works_ok (went_spends here refl w.2 (rw (passed_is l.passed c.loop-part-test.true nothing) at c.in_ok-destroy.ensures.works)),
          );
    }

pub returns-clause-destroyed : goal.returns-clause-destroyed
returns-clause-destroyed g c = destroyed_all c.loop-part.invariant.goes (omega (arith, c.loop-part-test.false))

pub returns-clause-works : goal.returns-clause-works
returns-clause-works g c =
    λ d k.
    let w = c.loop-part.invariant.works d k in
    let m = w.1.most in
    works_ok (works_more w.2 (omega (arith, m)))
