-- None waits, or the item is removed.
use Rattle.std.proofs.Common.{arith}
use Rattle.std.proofs.lemmas.Result.{IfErr-weaker, IfOk-weaker, err_from_is_err_and}
use Rattle.sdr_base.proofs.WorksLemmas.{looks_ok, looks_then, looks_works, works_more}
use Rattle.bp_queue.specs.Taking.{TakeStops, TakesFirst}
use Rattle.bp_queue.proofs.TakeLemmas.{highest_there, take_missed, take_stops, takes_none, takes_one}
use Rattle.bp_queue.proofs.taking.take.Goals as goal

pub remove_item-requires-clause-item : goal.remove_item-requires-clause-item
remove_item-requires-clause-item g c =
    let t = rw c.in-Some.is at c.in_ok-highest.ensures.told in
    rw c.highest.ensures.looks.same (highest_there (g.O.HasHeap.heap c.args.o.now) t c.requires.queues)

pub returns-in_err-highest-clause-refused : goal.returns-in_err-highest-clause-refused
returns-in_err-highest-clause-refused g c =
    let p = err_from_is_err_and c.from_residual.result c.from_residual.ensures.1 in
    rw (p.1, p.2) (take_missed c.args.q.now (g.O.HasHeap.heap c.args.o.now) _ _ c.in_err-highest.ensures.refused)

pub returns-in-None-clause-taken : goal.returns-in-None-clause-taken
returns-in-None-clause-taken g c =
    rw c.highest.ensures.looks.same (takes_none (g.O.HasHeap.heap c.args.o.now) (rw c.in-None.is at c.in_ok-highest.ensures.told))

pub returns-in-None-clause-works : goal.returns-in-None-clause-works
returns-in-None-clause-works g c = works_more (looks_works (looks_ok c.in_ok-highest.ensures.looks)) (omega arith)

pub returns-in-Some-clause-taken : goal.returns-in-Some-clause-taken
returns-in-Some-clause-taken g c =
    let t = rw c.in-Some.is at c.in_ok-highest.ensures.told in
    IfOk-weaker _ _ (TakesFirst c.args.q.now (g.O.HasHeap.heap c.args.o.now) (g.O.HasHeap.heap c.remove_item.new.o))
    (λ object m. takes_one (g.O.HasHeap.heap c.args.o.now) t m) (rw c.highest.ensures.looks.same at c.remove_item.ensures.removed)

pub returns-in-Some-clause-refused : goal.returns-in-Some-clause-refused
returns-in-Some-clause-refused g c =
    let t = rw c.in-Some.is at c.in_ok-highest.ensures.told in
    let new = g.O.HasHeap.heap c.remove_item.new.o in
    IfErr-weaker _ _ (TakeStops c.args.q.now (g.O.HasHeap.heap c.args.o.now) new)
    (λ stop u. take_stops (g.O.HasHeap.heap c.args.o.now) t new stop u) (rw c.highest.ensures.looks.same at c.remove_item.ensures.refused)

pub returns-in-Some-clause-works : goal.returns-in-Some-clause-works
returns-in-Some-clause-works g c = looks_then c.in_ok-highest.ensures.looks c.remove_item.ensures.works
