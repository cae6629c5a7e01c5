-- The extents of one clone come after those of another.
use Rattle.std.proofs.Common.{List, sym, subst, arith}
use Rattle.std.proofs.lemmas.Result.{err_from_is_err_and}
use Rattle.sdr_base.proofs.WorksLemmas.{looks_works, works_more, works_ok, works_stopped, works_then}
use Rattle.zco_join.specs.Appending.{AppendsClone, SomeClone, StopsClone}
use Rattle.zco_join.specs.Joining.{pieces_in}
use Rattle.zco_join.specs.declared.filled.Filled.{Filled}
use Rattle.zco_join.proofs.AppendedLemmas.{Appended, appended_all, appended_next, appended_none, appended_stopped, clone_at, lines_all, appended_as, lines_then, most_before, next, some_clone}
use Rattle.zco_join.proofs.PassedLemmas.{next_part, none_left, passed_is, passed_next, passed_none}
use Rattle.zco_join.proofs.joining.append_clones.Goals as goal

-- no part
abbrev nothing : Filled
nothing = record { offset = 0; length = 0; object = 0 }

pub loop-part-init : goal.loop-part-init
loop-part-init g c = record {
  passed = passed_none c.args.parts.now;
  goes = λ start acct t h. (
    appended_none c.args.object c.args.ticket t.clones c.args.parts.now (g.O.HasHeap.heap c.args.o.now) (g.O.HasHeap.heap c.check_failed.new.o)
        c.in_ok-check_failed.ensures.looks.same h.from.clones,
    works_ok (looks_works c.in_ok-check_failed.ensures.looks),
  );
}

pub append_clone-requires-clause-kept : goal.append_clone-requires-clause-kept
append_clone-requires-clause-kept g c =
    let s = c.requires.clones in (c.loop-part.invariant.goes s.start s.acct s.t s.has).1.kept

pub append_clone-requires-clause-clone : goal.append_clone-requires-clause-clone
append_clone-requires-clause-clone g c =
    let s = c.requires.clones in
    let l = c.loop-part.invariant.passed in
    let now = g.O.HasHeap.heap c.loop-part.o in
    let a = subst (λ (ps : List Filled). Appended c.args.object c.args.ticket s.t.clones ps (g.O.HasHeap.heap c.args.o.now) now)
    (next_part l c.loop-part-test.true).2 (c.loop-part.invariant.goes s.start s.acct s.t s.has).0 in
    subst (λ (p : Filled). SomeClone now c.args.object p.object) (sym (passed_is l c.loop-part-test.true nothing)) (some_clone s.has a)

pub returns-in_err-append_clone-clause-refused : goal.returns-in_err-append_clone-clause-refused
returns-in_err-append_clone-clause-refused g c =
    let p = err_from_is_err_and c.from_residual-in_err-append_clone.result c.from_residual-in_err-append_clone.ensures.1 in
    let l = c.loop-part.invariant.passed in
    let now = g.O.HasHeap.heap c.loop-part.o in
    let new = g.O.HasHeap.heap c.append_clone.new.o in
    let refused = subst (λ (x : Filled). StopsClone c.args.object c.args.ticket x.object now new c.in_err-append_clone.field-0.0)
    (passed_is l c.loop-part-test.true nothing) c.in_err-append_clone.ensures.refused in
    rw (p.1, p.2)
    (record {
      stops = λ start acct t h.
          appended_stopped h
          (subst (λ (ps : List Filled). Appended c.args.object c.args.ticket t.clones ps (g.O.HasHeap.heap c.args.o.now) now)
          (next_part l c.loop-part-test.true).2 (c.loop-part.invariant.goes start acct t h).0) new _ refused;
    })

pub returns-in_err-append_clone-clause-works : goal.returns-in_err-append_clone-clause-works
returns-in_err-append_clone-clause-works g c =
    let p = err_from_is_err_and c.from_residual-in_err-append_clone.result c.from_residual-in_err-append_clone.ensures.1 in
    let l = c.loop-part.invariant.passed in
    let now = g.O.HasHeap.heap c.loop-part.o in
    let works = rw (passed_is l c.loop-part-test.true nothing) at c.in_err-append_clone.ensures.works in
    λ start acct t h.
    let so = c.loop-part.invariant.goes start acct t h in
    let a = appended_as (next_part l c.loop-part-test.true).2 so.0 in
    let m = lines_all h a in
    rw (p.1, p.2)
    (works_stopped _
    (works_more (works_then so.1 (works start acct c.args.parts.now t (pieces_in a.before) (pieces_in (next h a).1) (next h a).0 (clone_at h a)))
    (omega (arith, m))))

pub loop-part-preserved : goal.loop-part-preserved
loop-part-preserved g c =
    let l = c.loop-part.invariant.passed in
    let now = g.O.HasHeap.heap c.loop-part.o in
    let new = g.O.HasHeap.heap c.append_clone.new.o in
    let appended = subst (λ (x : Filled). AppendsClone c.args.object c.args.ticket x.object now new)
    (passed_is l c.loop-part-test.true nothing) c.in_ok-append_clone.ensures.appended in
    let works = rw (passed_is l c.loop-part-test.true nothing) at c.in_ok-append_clone.ensures.works in
    record {
      passed = passed_next l c.loop-part-test.true;
      goes = λ start acct t h.
          let so = c.loop-part.invariant.goes start acct t h in
          let a = appended_as (next_part l c.loop-part-test.true).2 so.0 in
          let m = lines_then h a in (
            appended_next h a new appended,
            works_ok
                (works_more (works_then so.1 (works start acct c.args.parts.now t (pieces_in a.before) (pieces_in (next h a).1) (next h a).0 (clone_at h a)))
                (omega (arith, m))),
          );
    }

pub returns-clause-appended : goal.returns-clause-appended
returns-clause-appended g c = record {
  appends = λ start acct t h.
      appended_all
      (subst (λ (ps : List Filled). Appended c.args.object c.args.ticket t.clones ps (g.O.HasHeap.heap c.args.o.now) (g.O.HasHeap.heap c.loop-part.o))
      (none_left c.loop-part.invariant.passed (omega (arith, c.loop-part-test.false))) (c.loop-part.invariant.goes start acct t h).0);
}

pub returns-clause-works : goal.returns-clause-works
returns-clause-works g c =
    λ start acct t h.
    let so = c.loop-part.invariant.goes start acct t h in
    let m = most_before so.0 in
    works_ok (works_more so.1 (omega (arith, m)))
