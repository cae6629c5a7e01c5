-- The first one of the line expires, as long as it is overdue.
use Rattle.std.proofs.Common.{◌≡◌, arith, subst}
use Rattle.std.proofs.lemmas.Result.{err_from_is_err_and}
use Rattle.sdr_base.proofs.WorksLemmas.{looks_works, works_more, works_ok, works_stopped, works_then}
use Rattle.bp_queue.specs.Expiring.{ExpiresAll, ExpiresFirst}
use Rattle.bp_queue.proofs.FirstDueLemmas.{expire_fault}
use Rattle.bp_queue.proofs.GoesLemmas.{goes_all, goes_begun, goes_kept, goes_none, goes_on, goes_room, goes_stopped, lines_left}
use Rattle.bp_queue.proofs.QueueLemmas.{line_list, missed_only}
use Rattle.bp_queue.proofs.expiring.expire.Goals as goal

pub length-requires-clause-list : goal.length-requires-clause-list
length-requires-clause-list g c = λ kind. record { row = _; keeps = line_list c.requires.overdue.keeps.keeps }

pub returns-in_err-count-clause-refused : goal.returns-in_err-count-clause-refused
returns-in_err-count-clause-refused g c =
    let p = err_from_is_err_and c.from_residual.result c.from_residual.ensures.1 in
    rw (p.1, p.2)
    (expire_fault c.args.q.now c.args.now (g.O.HasHeap.heap c.args.o.now) _ _
    (missed_only (line_list c.requires.overdue.keeps.keeps) _ c.in_err-count.ensures.refused))

pub returns-in_err-count-clause-works : goal.returns-in_err-count-clause-works
returns-in_err-count-clause-works g c =
    let p = err_from_is_err_and c.from_residual.result c.from_residual.ensures.1 in
    λ next rows object_at sources rest k.
    rw (p.1, p.2) (works_stopped _ (works_more (looks_works c.in_err-count.ensures.looks) (omega arith)))

pub loop-i-init : goal.loop-i-init
loop-i-init g c = goes_begun g.O.HasHeap c.args.q.now c.args.now c.in_ok-count.ensures.looks

pub expire_first-requires-clause-kept : goal.expire_first-requires-clause-kept
expire_first-requires-clause-kept g c = goes_kept g.O.HasHeap c.args.q.now c.args.now c.loop-i.invariant c.requires.overdue

pub expire_first-requires-clause-overdue : goal.expire_first-requires-clause-overdue
expire_first-requires-clause-overdue g c = goes_room g.O.HasHeap c.args.q.now c.args.now c.loop-i.invariant c.requires.overdue

pub returns-in_err-went-clause-refused : goal.returns-in_err-went-clause-refused
returns-in_err-went-clause-refused g c =
    let p = err_from_is_err_and c.from_residual-in_err-went.result c.from_residual-in_err-went.ensures.1 in
    rw (p.1, p.2)
    (goes_stopped g.O.HasHeap c.args.q.now c.args.now c.loop-i.invariant c.expire_first.new.o _ c.in_err-went.ensures.refused)

pub returns-in_err-went-clause-works : goal.returns-in_err-went-clause-works
returns-in_err-went-clause-works g c =
    let p = err_from_is_err_and c.from_residual-in_err-went.result c.from_residual-in_err-went.ensures.1 in
    λ next rows object_at sources rest k.
    let s = c.loop-i.invariant.goes next rows object_at sources rest k in
    let l = lines_left g.O.HasHeap c.args.q.now c.args.now c.loop-i.invariant k in
    rw (p.1, p.2)
    (works_stopped _
    (works_more
    (works_then s.works (c.in_err-went.ensures.works next s.come.left object_at s.come.so_far.sources s.come.so_far.rest s.come.keeps)) l))

pub returns-then-not-went-clause-expired : goal.returns-then-not-went-clause-expired
returns-then-not-went-clause-expired g c =
    goes_none g.O.HasHeap c.args.q.now c.args.now c.loop-i.invariant c.expire_first.new.o
    (subst (ExpiresFirst c.args.q.now c.args.now (g.O.HasHeap.heap c.loop-i.o) (g.O.HasHeap.heap c.expire_first.new.o)) c.if-not-went.true
    c.in_ok-went.ensures.expired)

pub returns-then-not-went-clause-works : goal.returns-then-not-went-clause-works
returns-then-not-went-clause-works g c =
    λ next rows object_at sources rest k.
    let s = c.loop-i.invariant.goes next rows object_at sources rest k in
    let l = lines_left g.O.HasHeap c.args.q.now c.args.now c.loop-i.invariant k in
    works_ok
    (works_more
    (works_then s.works (c.in_ok-went.ensures.works next s.come.left object_at s.come.so_far.sources s.come.so_far.rest s.come.keeps)) l)

pub loop-i-preserved : goal.loop-i-preserved
loop-i-preserved g c =
    goes_on g.O.HasHeap c.args.q.now c.args.now c.loop-i.invariant c.expire_first.new.o
    (subst (ExpiresFirst c.args.q.now c.args.now (g.O.HasHeap.heap c.loop-i.o) (g.O.HasHeap.heap c.expire_first.new.o)) c.if-not-went.false
    c.in_ok-went.ensures.expired)
    (λ next rows object_at sources rest k. works_ok (c.in_ok-went.ensures.works next rows object_at sources rest k))

pub returns-clause-expired : goal.returns-clause-expired
returns-clause-expired g c =
    let end : c.loop-i.i ≡ c.in_ok-count.count = omega arith in
    subst (ExpiresAll c.args.q.now c.args.now (g.O.HasHeap.heap c.args.o.now) (g.O.HasHeap.heap c.loop-i.o)) end
    (goes_all g.O.HasHeap c.args.q.now c.args.now c.loop-i.invariant c.in_ok-count.ensures.given end)

pub returns-clause-works : goal.returns-clause-works
returns-clause-works g c =
    λ next rows object_at sources rest k.
    let s = c.loop-i.invariant.goes next rows object_at sources rest k in
    let l = lines_left g.O.HasHeap c.args.q.now c.args.now c.loop-i.invariant k in
    works_ok (works_more s.works (omega (arith, l)))
