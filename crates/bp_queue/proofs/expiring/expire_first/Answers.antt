-- None waits, or the first one expires where it is overdue.
use Rattle.std.proofs.Common.{arith}
use Rattle.std.proofs.lemmas.Result.{err_from_is_err_and}
use Rattle.sdr_base.proofs.WorksLemmas.{looks_ok, looks_then, looks_works, works_more, works_stopped}
use Rattle.bp_queue.proofs.FirstDueLemmas.{first_fault, first_none}
use Rattle.bp_queue.proofs.QueueLemmas.{line_list}
use Rattle.bp_queue.proofs.expiring.expire_first.Goals as goal

pub first_item-requires-clause-list : goal.first_item-requires-clause-list
first_item-requires-clause-list g c = record { row = _; keeps = line_list c.requires.overdue.keeps.keeps }

pub returns-in_err-first_item-clause-refused : goal.returns-in_err-first_item-clause-refused
returns-in_err-first_item-clause-refused g c =
    let p = err_from_is_err_and c.from_residual.result c.from_residual.ensures.1 in
    rw (p.1, p.2) (first_fault c.args.q.now c.args.now (g.O.HasHeap.heap c.args.o.now) _ _ c.in_err-first_item.ensures.refused)

pub returns-in_err-first_item-clause-works : goal.returns-in_err-first_item-clause-works
returns-in_err-first_item-clause-works g c =
    let p = err_from_is_err_and c.from_residual.result c.from_residual.ensures.1 in
    λ next rows object_at sources rest k.
    rw (p.1, p.2) (works_stopped _ (works_more (looks_works c.in_err-first_item.ensures.looks) (omega arith)))

pub returns-in-None-clause-expired : goal.returns-in-None-clause-expired
returns-in-None-clause-expired g c =
    rw c.first_item.ensures.looks.same
    (first_none c.args.q.now c.args.now (g.O.HasHeap.heap c.args.o.now) (rw c.in-None.is at c.in_ok-first_item.ensures.told))

pub returns-in-None-clause-works : goal.returns-in-None-clause-works
returns-in-None-clause-works g c = λ next rows object_at sources rest k.
    works_more (looks_works (looks_ok c.in_ok-first_item.ensures.looks)) (omega arith)

pub expire_item-requires-clause-overdue : goal.expire_item-requires-clause-overdue
expire_item-requires-clause-overdue g c = rw c.first_item.ensures.looks.same c.requires.overdue

pub expire_item-requires-clause-first : goal.expire_item-requires-clause-first
expire_item-requires-clause-first g c =
    rw c.first_item.ensures.looks.same (rw c.in-Some.is at c.in_ok-first_item.ensures.told)

pub returns-in-Some-clause-works : goal.returns-in-Some-clause-works
returns-in-Some-clause-works g c =
    let w = rw c.first_item.ensures.looks.same at c.expire_item.ensures.works in
    λ next rows object_at sources rest k. looks_then c.in_ok-first_item.ensures.looks (w next rows object_at sources rest k)
