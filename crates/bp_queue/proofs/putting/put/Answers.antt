-- The object is there, and doesn't wait yet.
use Rattle.std.proofs.Common.{◌∙◌}
use Rattle.std.proofs.lemmas.Result.{IfErr-weaker, err_from_is_err_and}
use Rattle.sdr_base.proofs.HeapLemmas.{ok_both}
use Rattle.sdr_base.proofs.WorksLemmas.{looks_then}
use Rattle.bp_queue.specs.Putting.{PutsLast, PutStops}
use Rattle.bp_queue.proofs.LastLemmas.{is_taken, object_some, put_fault, put_missed, put_new_stops, puts_last}
use Rattle.bp_queue.proofs.QueueLemmas.{line_list, missed_only}
use Rattle.bp_queue.proofs.putting.put.Goals as goal

pub returns-in_err-expect_kind-clause-refused : goal.returns-in_err-expect_kind-clause-refused
returns-in_err-expect_kind-clause-refused g c =
    let p = err_from_is_err_and c.from_residual.result c.from_residual.ensures.1 in
    rw (p.1, p.2)
    (put_missed c.args.q.now c.args.object (g.O.HasHeap.heap c.args.o.now) _ _ c.expect_kind.ensures.looks.same
    c.in_err-expect_kind.ensures.refused)

pub user_data-requires-clause-list : goal.user_data-requires-clause-list
user_data-requires-clause-list g c =
    rw c.expect_kind.ensures.looks.same (λ kind. record { row = _; keeps = line_list c.requires.queues.keeps })

pub returns-in_err-number-clause-refused : goal.returns-in_err-number-clause-refused
returns-in_err-number-clause-refused g c =
    let p = err_from_is_err_and c.from_residual-in_err-number.result c.from_residual-in_err-number.ensures.1 in
    rw (p.1, p.2)
    (put_fault c.args.q.now c.args.object (g.O.HasHeap.heap c.args.o.now) _ _
    (missed_only (line_list c.requires.queues.keeps) _ (rw c.expect_kind.ensures.looks.same at c.in_err-number.ensures.refused)))

pub returns-in_err-value-clause-refused : goal.returns-in_err-value-clause-refused
returns-in_err-value-clause-refused g c =
    let p = err_from_is_err_and c.from_residual-in_err-value.result c.from_residual-in_err-value.ensures.1 in
    rw (p.1, p.2)
    (put_fault c.args.q.now c.args.object (g.O.HasHeap.heap c.args.o.now) _ _ c.in_err-value.ensures.refused)

pub returns-in-Some-clause-refused : goal.returns-in-Some-clause-refused
returns-in-Some-clause-refused g c =
    let f = rw (c.user_data.ensures.looks.same, c.expect_kind.ensures.looks.same, c.in-Some.is) at c.in_ok-value.ensures.found in (
      c.in_ok-expect_kind.ensures.found,
      is_taken f,
      c.item_naming.ensures.looks.same ∙ c.user_data.ensures.looks.same ∙ c.expect_kind.ensures.looks.same,
    )

pub put_new-requires-clause-object : goal.put_new-requires-clause-object
put_new-requires-clause-object g c = object_some c.requires.queues.keeps.stands c.in_ok-expect_kind.ensures.found

pub returns-in-None-clause-put : goal.returns-in-None-clause-put
returns-in-None-clause-put g c =
    let f = rw (c.user_data.ensures.looks.same, c.expect_kind.ensures.looks.same, c.in-None.is) at c.in_ok-value.ensures.found in
    let t = rw c.expect_kind.ensures.looks.same at c.in_ok-number.ensures.given in
    let old = g.O.HasHeap.heap c.args.o.now in
    let new = g.O.HasHeap.heap c.put_new.new.o in
    ok_both _ _ _
    {R = λ item. PutsLast c.args.q.now
    (record { item = item; class = c.args.class; ordinal = c.args.ordinal; deadline = c.args.deadline; object = c.args.object }) old new}
    (λ item a less. puts_last c.in_ok-expect_kind.ensures.found f t less a)
    (rw (c.item_naming.ensures.looks.same, c.user_data.ensures.looks.same, c.expect_kind.ensures.looks.same) at c.put_new.ensures.admitted)
    c.put_new.ensures.reached

pub returns-in-None-clause-refused : goal.returns-in-None-clause-refused
returns-in-None-clause-refused g c =
    let f = rw (c.user_data.ensures.looks.same, c.expect_kind.ensures.looks.same, c.in-None.is) at c.in_ok-value.ensures.found in
    let t = rw c.expect_kind.ensures.looks.same at c.in_ok-number.ensures.given in
    let old = g.O.HasHeap.heap c.args.o.now in
    let new = g.O.HasHeap.heap c.put_new.new.o in
    IfErr-weaker _ _ (PutStops c.args.q.now c.args.object old new)
    (λ stop u. put_new_stops c.args.q.now c.args.object c.in_ok-number.number old new stop c.in_ok-expect_kind.ensures.found f t u)
    (rw (c.item_naming.ensures.looks.same, c.user_data.ensures.looks.same, c.expect_kind.ensures.looks.same) at c.put_new.ensures.refused)

pub returns-in-None-clause-works : goal.returns-in-None-clause-works
returns-in-None-clause-works g c =
    looks_then c.in_ok-expect_kind.ensures.looks
    (looks_then c.in_ok-number.ensures.looks (looks_then c.in_ok-value.ensures.looks c.put_new.ensures.works))
