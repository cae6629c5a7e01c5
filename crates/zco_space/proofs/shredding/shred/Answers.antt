-- The ticket goes, what was left is given back, and the queue is served.
use Rattle.std.proofs.Common.{refl, ap, sym, ◌∙◌, arith}
use Rattle.std.proofs.lemmas.Result.{err_from_is_err_and}
use Rattle.sdr_base.specs.Objects.{Heap}
use Rattle.sdr_base.proofs.WorksLemmas.{looks_then, works_more, works_ok, works_stopped, works_then}
use Rattle.zco_space.specs.Served.{newly_granted}
use Rattle.zco_space.specs.Shreds.{queue_of, without_number}
use Rattle.zco_space.proofs.FindLemmas.{kept_of, queue_kept, some_first}
use Rattle.zco_space.proofs.ShredLemmas.{granted_there, kept_back, served_back, shreds, stops_after, stops_before}
use Rattle.zco_space.proofs.shredding.shred.Goals as goal

pub take_out-requires-clause-first : goal.take_out-requires-clause-first
take_out-requires-clause-first g c =
    let s = rw c.in-Some.is at c.in_ok-standing.ensures.found in
    let acct = c.in-Some.standing.acct in
    rw c.find_ticket.ensures.looks.same
    (some_first acct c.in-Some.standing.found s (queue_kept acct c.requires.inbound c.requires.outbound))

pub serve-requires-clause-queue : goal.serve-requires-clause-queue
serve-requires-clause-queue g c =
    let s = rw c.in-Some.is at c.in_ok-standing.ensures.found in
    let t = rw c.find_ticket.ensures.looks.same at c.in_ok-take_out.ensures.taken in
    let q = queue_kept c.in-Some.standing.acct c.requires.inbound c.requires.outbound in
    record { tickets = _; keeps = kept_back s t c.in_ok-release.ensures.released q.keeps }

pub returns-in_err-take_out-clause-refused : goal.returns-in_err-take_out-clause-refused
returns-in_err-take_out-clause-refused g c =
    let p = err_from_is_err_and c.from_residual-in_err-take_out.result c.from_residual-in_err-take_out.ensures.1 in
    let s = rw c.in-Some.is at c.in_ok-standing.ensures.found in
    let u = rw c.find_ticket.ensures.looks.same at c.in_err-take_out.ensures.refused in
    rw (p.1, p.2) (stops_before (g.O.HasHeap.heap c.take_out.new.o) _ s u)

pub returns-in_err-release-clause-refused : goal.returns-in_err-release-clause-refused
returns-in_err-release-clause-refused g c =
    let p = err_from_is_err_and c.from_residual-in_err-release.result c.from_residual-in_err-release.ensures.1 in
    let s = rw c.in-Some.is at c.in_ok-standing.ensures.found in
    let t = rw c.find_ticket.ensures.looks.same at c.in_ok-take_out.ensures.taken in
    let q = queue_kept c.in-Some.standing.acct c.requires.inbound c.requires.outbound in
    rw (p.1, p.2)
    (stops_after (g.O.HasHeap.heap c.take_out.new.o) (g.O.HasHeap.heap c.release.new.o) _ s t q refl refl
    c.in_err-release.ensures.refused)

pub returns-in_err-serve-clause-refused : goal.returns-in_err-serve-clause-refused
returns-in_err-serve-clause-refused g c =
    let p = err_from_is_err_and c.from_residual-in_err-serve.result c.from_residual-in_err-serve.ensures.1 in
    let s = rw c.in-Some.is at c.in_ok-standing.ensures.found in
    let t = rw c.find_ticket.ensures.looks.same at c.in_ok-take_out.ensures.taken in
    let q = queue_kept c.in-Some.standing.acct c.requires.inbound c.requires.outbound in
    let w = c.in_ok-release.ensures.released in
    rw (p.1, p.2)
    (stops_after (g.O.HasHeap.heap c.release.new.o) (g.O.HasHeap.heap c.serve.new.o) _ s t q
    (ap (λ (h : Heap). h.moves) w) (ap (λ (h : Heap). h.spare) w) c.in_err-serve.ensures.refused)

pub returns-in_err-serve-clause-works : goal.returns-in_err-serve-clause-works
returns-in_err-serve-clause-works g c =
    let p = err_from_is_err_and c.from_residual-in_err-serve.result c.from_residual-in_err-serve.ensures.1 in
    let s = rw c.in-Some.is at c.in_ok-standing.ensures.found in
    let t = rw c.find_ticket.ensures.looks.same at c.in_ok-take_out.ensures.taken in
    let w = c.in_ok-release.ensures.released in
    let acct = c.in-Some.standing.acct in
    λ inbound outbound k l.
    let kept = kept_of acct k l in
    let tickets = without_number c.args.ticket (queue_of acct inbound outbound) in
    let n = ap (newly_granted tickets) (served_back s t w kept) ∙ sym (granted_there s inbound outbound k l) in
    rw (p.1, p.2)
    (works_stopped _ (works_more (works_then (works_then (looks_then c.in_ok-standing.ensures.looks c.in_ok-take_out.ensures.works)
    c.in_ok-release.ensures.works) (c.in_err-serve.ensures.works tickets (kept_back s t w kept))) (omega (arith, n))))

pub returns-clause-shredded : goal.returns-clause-shredded
returns-clause-shredded g c =
    let s = rw c.in-Some.is at c.in_ok-standing.ensures.found in
    let t = rw c.find_ticket.ensures.looks.same at c.in_ok-take_out.ensures.taken in
    shreds s t c.in_ok-release.ensures.released c.in_ok-serve.ensures.served

pub returns-clause-works : goal.returns-clause-works
returns-clause-works g c =
    let s = rw c.in-Some.is at c.in_ok-standing.ensures.found in
    let t = rw c.find_ticket.ensures.looks.same at c.in_ok-take_out.ensures.taken in
    let w = c.in_ok-release.ensures.released in
    let acct = c.in-Some.standing.acct in
    λ inbound outbound k l.
    let kept = kept_of acct k l in
    let tickets = without_number c.args.ticket (queue_of acct inbound outbound) in
    let n = ap (newly_granted tickets) (served_back s t w kept) ∙ sym (granted_there s inbound outbound k l) in
    works_ok (works_more (works_then (works_then (looks_then c.in_ok-standing.ensures.looks c.in_ok-take_out.ensures.works)
    c.in_ok-release.ensures.works) (c.in_ok-serve.ensures.works tickets (kept_back s t w kept))) (omega (arith, n)))
