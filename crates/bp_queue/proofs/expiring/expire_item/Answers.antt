-- Its deadline is read; where that has come, it is removed, and its object destroyed.
use Rattle.std.proofs.Common.{arith}
use Rattle.std.proofs.lemmas.Result.{err_from_is_err_and}
use Rattle.sdr_base.proofs.WorksLemmas.{looks_ok, looks_then, looks_works, works_more, works_ok, works_stopped, works_then}
use Rattle.sdr_base.proofs.WritingLemmas.{reaches_less}
use Rattle.bp_queue.proofs.FirstDueLemmas.{due_item, due_lines, due_object, due_sources, due_spare, first_fault, first_goes, first_not_due, item_stays, object_stays}
use Rattle.bp_queue.proofs.FirstLemmas.{line_item}
use Rattle.bp_queue.proofs.RemoveLemmas.{item_reaches}
use Rattle.bp_queue.proofs.expiring.expire_item.Goals as goal

pub word-requires-clause-inside : goal.word-requires-clause-inside
word-requires-clause-inside g c =
    let s = c.requires.overdue in
    reaches_less _ 56 _
    (item_reaches (line_item c.requires.first (record { next = s.next; rows = s.rows; rest = _; keeps = s.keeps.keeps })).stands) (omega arith)

pub returns-in_err-deadline-clause-refused : goal.returns-in_err-deadline-clause-refused
returns-in_err-deadline-clause-refused g c =
    let p = err_from_is_err_and c.from_residual.result c.from_residual.ensures.1 in
    rw (p.1, p.2) (first_fault c.args.q.now c.args.now (g.O.HasHeap.heap c.args.o.now) _ _ c.in_err-deadline.ensures.refused)

pub returns-in_err-deadline-clause-works : goal.returns-in_err-deadline-clause-works
returns-in_err-deadline-clause-works g c =
    let p = err_from_is_err_and c.from_residual.result c.from_residual.ensures.1 in
    λ next rows object_at sources rest k.
    rw (p.1, p.2) (works_stopped _ (works_more (looks_works c.in_err-deadline.ensures.looks) (omega arith)))

pub returns-then-deadline-now-clause-expired : goal.returns-then-deadline-now-clause-expired
returns-then-deadline-now-clause-expired g c =
    rw c.word.ensures.looks.same
    (first_not_due c.args.q.now c.args.now (g.O.HasHeap.heap c.args.o.now) c.args.item c.in_ok-deadline.deadline c.requires.first
    c.in_ok-deadline.ensures.given (omega arith))

pub returns-then-deadline-now-clause-works : goal.returns-then-deadline-now-clause-works
returns-then-deadline-now-clause-works g c = λ next rows object_at sources rest k.
    works_more (looks_works (looks_ok c.in_ok-deadline.ensures.looks)) (omega arith)

pub remove_item-requires-clause-spare : goal.remove_item-requires-clause-spare
remove_item-requires-clause-spare g c =
    rw c.word.ensures.looks.same
    (due_spare c.args.q.now c.args.now (g.O.HasHeap.heap c.args.o.now) c.args.item c.in_ok-deadline.deadline c.requires.first
    c.in_ok-deadline.ensures.given (omega arith) c.requires.overdue)

pub remove_item-requires-clause-item : goal.remove_item-requires-clause-item
remove_item-requires-clause-item g c =
    rw c.word.ensures.looks.same
    (due_item c.args.q.now c.args.now (g.O.HasHeap.heap c.args.o.now) c.args.item c.in_ok-deadline.deadline c.requires.first
    c.in_ok-deadline.ensures.given (omega arith) c.requires.overdue)

pub returns-in_err-object-clause-refused : goal.returns-in_err-object-clause-refused
returns-in_err-object-clause-refused g c =
    let p = err_from_is_err_and c.from_residual-in_err-object.result c.from_residual-in_err-object.ensures.1 in
    rw (p.1, p.2)
    (item_stays c.args.q.now c.args.now (g.O.HasHeap.heap c.args.o.now) c.args.item c.in_ok-deadline.deadline c.requires.first
    c.in_ok-deadline.ensures.given (omega arith) _ _ (rw c.word.ensures.looks.same at c.in_err-object.ensures.refused))

pub returns-in_err-object-clause-works : goal.returns-in_err-object-clause-works
returns-in_err-object-clause-works g c =
    let p = err_from_is_err_and c.from_residual-in_err-object.result c.from_residual-in_err-object.ensures.1 in
    λ next rows object_at sources rest k.
    let l = due_lines c.args.q.now c.args.now (g.O.HasHeap.heap c.args.o.now) c.args.item c.in_ok-deadline.deadline c.requires.first
    c.in_ok-deadline.ensures.given (omega arith) k in
    rw (p.1, p.2)
    (works_stopped _ (works_more (looks_then c.in_ok-deadline.ensures.looks c.in_err-object.ensures.works) (omega (arith, l))))

pub destroy-requires-clause-object : goal.destroy-requires-clause-object
destroy-requires-clause-object g c =
    let m = rw c.word.ensures.looks.same at c.in_ok-object.ensures.removed in
    λ kind. due_object c.args.q.now c.args.now (g.O.HasHeap.heap c.args.o.now) c.args.item c.in_ok-deadline.deadline c.requires.first
    c.in_ok-deadline.ensures.given (omega arith) c.requires.overdue m

pub returns-in_err-destroy-clause-refused : goal.returns-in_err-destroy-clause-refused
returns-in_err-destroy-clause-refused g c =
    let p = err_from_is_err_and c.from_residual-in_err-destroy.result c.from_residual-in_err-destroy.ensures.1 in
    let m = rw c.word.ensures.looks.same at c.in_ok-object.ensures.removed in
    rw (p.1, p.2)
    (object_stays c.args.q.now c.args.now (g.O.HasHeap.heap c.args.o.now) c.args.item c.in_ok-deadline.deadline c.requires.first
    c.in_ok-deadline.ensures.given (omega arith) c.requires.overdue m _ _ c.in_err-destroy.ensures.refused)

pub returns-in_err-destroy-clause-works : goal.returns-in_err-destroy-clause-works
returns-in_err-destroy-clause-works g c =
    let p = err_from_is_err_and c.from_residual-in_err-destroy.result c.from_residual-in_err-destroy.ensures.1 in
    let m = rw c.word.ensures.looks.same at c.in_ok-object.ensures.removed in
    λ next rows object_at sources rest k.
    let l = due_lines c.args.q.now c.args.now (g.O.HasHeap.heap c.args.o.now) c.args.item c.in_ok-deadline.deadline c.requires.first
    c.in_ok-deadline.ensures.given (omega arith) k in
    let w = c.in_err-destroy.ensures.works _ _
    (due_sources c.args.q.now c.args.now (g.O.HasHeap.heap c.args.o.now) c.args.item c.in_ok-deadline.deadline c.requires.first
    c.in_ok-deadline.ensures.given (omega arith) m k) in
    rw (p.1, p.2)
    (works_stopped _
    (works_more (works_then (looks_then c.in_ok-deadline.ensures.looks c.in_ok-object.ensures.works) w) (omega (arith, l))))

pub returns-clause-expired : goal.returns-clause-expired
returns-clause-expired g c =
    let m = rw c.word.ensures.looks.same at c.in_ok-object.ensures.removed in
    first_goes c.args.q.now c.args.now (g.O.HasHeap.heap c.args.o.now) c.args.item c.in_ok-deadline.deadline c.requires.first
    c.in_ok-deadline.ensures.given (omega arith) m c.in_ok-destroy.ensures.destroyed

pub returns-clause-works : goal.returns-clause-works
returns-clause-works g c =
    let m = rw c.word.ensures.looks.same at c.in_ok-object.ensures.removed in
    λ next rows object_at sources rest k.
    let l = due_lines c.args.q.now c.args.now (g.O.HasHeap.heap c.args.o.now) c.args.item c.in_ok-deadline.deadline c.requires.first
    c.in_ok-deadline.ensures.given (omega arith) k in
    let w = c.in_ok-destroy.ensures.works _ _
    (due_sources c.args.q.now c.args.now (g.O.HasHeap.heap c.args.o.now) c.args.item c.in_ok-deadline.deadline c.requires.first
    c.in_ok-deadline.ensures.given (omega arith) m k) in
    works_ok (works_more (works_then (looks_then c.in_ok-deadline.ensures.looks c.in_ok-object.ensures.works) w) (omega (arith, l)))
