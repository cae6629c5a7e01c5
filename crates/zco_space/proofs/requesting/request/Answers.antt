-- The ticket gets its number and its place, and the queue is served.
use Rattle.std.proofs.Common.{refl, ap, arith}
use Rattle.std.proofs.lemmas.Result.{err_from_is_err_and}
use Rattle.sdr_base.specs.Objects.{Heap}
use Rattle.sdr_base.proofs.WorksLemmas.{looks_then, looks_works, works_more, works_ok, works_stopped, works_then}
use Rattle.zco_space.proofs.RequestLemmas.{granted_there, kept_back, requests, short_since, stops_short}
use Rattle.zco_space.proofs.requesting.request.Goals as goal

pub enqueue-requires-clause-new : goal.enqueue-requires-clause-new
enqueue-requires-clause-new g c =
    let small = c.in_ok-number.ensures.numbered.small in
    record {
      left = refl;
      waiting = refl;
      fits = record {
        block = omega arith;
        number = omega (arith, small);
        coarse = omega arith;
        fine = omega arith;
        asked = record { file = omega arith; bulk = omega arith; heap = omega arith };
        left = record { file = omega arith; bulk = omega arith; heap = omega arith };
      };
    }

pub returns-in_err-set_root-clause-refused : goal.returns-in_err-set_root-clause-refused
returns-in_err-set_root-clause-refused g c =
    let p = err_from_is_err_and c.from_residual-in_err-set_root.result c.from_residual-in_err-set_root.ensures.1 in
    let e = rw c.next_number.ensures.looks.same at c.in_ok-enqueue.ensures.entered in
    let new = g.O.HasHeap.heap c.set_root.new.self in
    rw (p.1, p.2)
    (stops_short c.args.acct c.args.asked.now (g.O.HasHeap.heap c.args.o.now) new _ c.in_ok-number.ensures.numbered.allowed
    (short_since (g.O.HasHeap.heap c.enqueue.new.o) new _ c.requires.queue e refl refl c.in_err-set_root.ensures.refused))

pub returns-in_err-set_root-clause-works : goal.returns-in_err-set_root-clause-works
returns-in_err-set_root-clause-works g c =
    let p = err_from_is_err_and c.from_residual-in_err-set_root.result c.from_residual-in_err-set_root.ensures.1 in
    λ tickets k.
    rw (p.1, p.2)
    (works_stopped _ (works_more (works_then (looks_then c.in_ok-number.ensures.looks c.in_ok-enqueue.ensures.works)
    c.in_err-set_root.ensures.works) (omega arith)))

pub serve-requires-clause-queue : goal.serve-requires-clause-queue
serve-requires-clause-queue g c =
    let e = rw c.next_number.ensures.looks.same at c.in_ok-enqueue.ensures.entered in
    record {
      tickets = _;
      keeps =
          kept_back c.args.asked.now c.args.coarse c.args.fine c.in_ok-number.ensures.numbered e c.in_ok-set_root.ensures.written
          c.requires.queue.keeps;
    }

pub returns-in_err-serve-clause-refused : goal.returns-in_err-serve-clause-refused
returns-in_err-serve-clause-refused g c =
    let p = err_from_is_err_and c.from_residual-in_err-serve.result c.from_residual-in_err-serve.ensures.1 in
    let e = rw c.next_number.ensures.looks.same at c.in_ok-enqueue.ensures.entered in
    let w = c.in_ok-set_root.ensures.written in
    let new = g.O.HasHeap.heap c.serve.new.o in
    rw (p.1, p.2)
    (stops_short c.args.acct c.args.asked.now (g.O.HasHeap.heap c.args.o.now) new _ c.in_ok-number.ensures.numbered.allowed
    (short_since (g.O.HasHeap.heap c.set_root.new.self) new _ c.requires.queue e (ap (λ (h : Heap). h.moves) w)
    (ap (λ (h : Heap). h.spare) w) c.in_err-serve.ensures.refused))

pub returns-in_err-serve-clause-works : goal.returns-in_err-serve-clause-works
returns-in_err-serve-clause-works g c =
    let p = err_from_is_err_and c.from_residual-in_err-serve.result c.from_residual-in_err-serve.ensures.1 in
    let e = rw c.next_number.ensures.looks.same at c.in_ok-enqueue.ensures.entered in
    let w = c.in_ok-set_root.ensures.written in
    let n = c.in_ok-number.ensures.numbered in
    λ tickets k.
    let many = granted_there c.args.asked.now c.args.coarse c.args.fine n e w k in
    rw (p.1, p.2)
    (works_stopped _ (works_more (works_then (works_then (looks_then c.in_ok-number.ensures.looks c.in_ok-enqueue.ensures.works)
    c.in_ok-set_root.ensures.works)
    (c.in_err-serve.ensures.works _ (kept_back c.args.asked.now c.args.coarse c.args.fine n e w k))) (omega (arith, many))))

pub is_granted-requires-clause-kept : goal.is_granted-requires-clause-kept
is_granted-requires-clause-kept g c =
    let e = rw c.next_number.ensures.looks.same at c.in_ok-enqueue.ensures.entered in
    (c.in_ok-serve.ensures.works _
    (kept_back c.args.asked.now c.args.coarse c.args.fine c.in_ok-number.ensures.numbered e c.in_ok-set_root.ensures.written
    c.requires.queue.keeps)).kept

pub is_granted-requires-clause-queue : goal.is_granted-requires-clause-queue
is_granted-requires-clause-queue g c =
    let e = rw c.next_number.ensures.looks.same at c.in_ok-enqueue.ensures.entered in
    record {
      tickets = _;
      keeps =
          c.in_ok-serve.ensures.served.keeps _
          (kept_back c.args.asked.now c.args.coarse c.args.fine c.in_ok-number.ensures.numbered e c.in_ok-set_root.ensures.written
          c.requires.queue.keeps);
    }

pub returns-in_err-granted-clause-works : goal.returns-in_err-granted-clause-works
returns-in_err-granted-clause-works g c =
    let p = err_from_is_err_and c.from_residual-in_err-granted.result c.from_residual-in_err-granted.ensures.1 in
    let e = rw c.next_number.ensures.looks.same at c.in_ok-enqueue.ensures.entered in
    let w = c.in_ok-set_root.ensures.written in
    let n = c.in_ok-number.ensures.numbered in
    λ tickets k.
    let many = granted_there c.args.asked.now c.args.coarse c.args.fine n e w k in
    rw (p.1, p.2)
    (works_stopped _ (works_more (works_then (works_then (works_then (looks_then c.in_ok-number.ensures.looks c.in_ok-enqueue.ensures.works)
    c.in_ok-set_root.ensures.works)
    (c.in_ok-serve.ensures.works _ (kept_back c.args.asked.now c.args.coarse c.args.fine n e w k)))
    (looks_works c.in_err-granted.ensures.looks)) (omega (arith, many))))

pub returns-clause-requested : goal.returns-clause-requested
returns-clause-requested g c =
    let e = rw c.next_number.ensures.looks.same at c.in_ok-enqueue.ensures.entered in
    rw c.is_granted.ensures.looks.same
    (requests c.args.asked.now c.args.coarse c.args.fine c.in_ok-number.ensures.numbered e c.in_ok-set_root.ensures.written
    c.in_ok-serve.ensures.served c.in_ok-granted.ensures.told)

pub returns-clause-works : goal.returns-clause-works
returns-clause-works g c =
    let e = rw c.next_number.ensures.looks.same at c.in_ok-enqueue.ensures.entered in
    let w = c.in_ok-set_root.ensures.written in
    let n = c.in_ok-number.ensures.numbered in
    λ tickets k.
    let many = granted_there c.args.asked.now c.args.coarse c.args.fine n e w k in
    works_ok (works_more (works_then (works_then (works_then (looks_then c.in_ok-number.ensures.looks c.in_ok-enqueue.ensures.works)
    c.in_ok-set_root.ensures.works)
    (c.in_ok-serve.ensures.works _ (kept_back c.args.asked.now c.args.coarse c.args.fine n e w k)))
    (looks_works c.in_ok-granted.ensures.looks)) (omega (arith, many)))
