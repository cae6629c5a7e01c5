-- The ticket is linked on either side.
use Rattle.std.proofs.Common.{refl, ap}
use Rattle.std.proofs.lemmas.Result.{err_from_is_err_and}
use Rattle.sdr_base.specs.Objects.{Heap}
use Rattle.sdr_base.proofs.HeapLemmas.{short_after}
use Rattle.zco_acct.proofs.MoveLemmas.{unmoved_since}
use Rattle.zco_space.proofs.EnterLemmas.{enters, previous_reaches, took_ticket}
use Rattle.zco_space.proofs.requesting.enqueue.Goals as goal

pub link_next-requires-clause-prev : goal.link_next-requires-clause-prev
link_next-requires-clause-prev g c =
    let t = rw c.place_for.ensures.looks.same at c.in_ok-added.ensures.taken in
    previous_reaches t c.requires.queue c.in_ok-place.ensures.found

pub returns-in_err-link_next-clause-refused : goal.returns-in_err-link_next-clause-refused
returns-in_err-link_next-clause-refused g c =
    let p = err_from_is_err_and c.from_residual-in_err-link_next.result c.from_residual-in_err-link_next.ensures.1 in
    let t = rw c.place_for.ensures.looks.same at c.in_ok-added.ensures.taken in
    rw (p.1, p.2)
    (short_after (g.O.HasHeap.heap c.take_ticket.new.o) (g.O.HasHeap.heap c.link_next.new.o) _ (took_ticket t) refl
    c.in_err-link_next.ensures.refused)

pub returns-in_err-link_last-clause-refused : goal.returns-in_err-link_last-clause-refused
returns-in_err-link_last-clause-refused g c =
    let p = err_from_is_err_and c.from_residual-in_err-link_last.result c.from_residual-in_err-link_last.ensures.1 in
    let t = rw c.place_for.ensures.looks.same at c.in_ok-added.ensures.taken in
    let mid = g.O.HasHeap.heap c.take_ticket.new.o in
    let new = g.O.HasHeap.heap c.link_last.new.o in
    let same = c.in_ok-link_next.ensures.linked.same in
    rw (p.1, p.2)
    (short_after mid new _ (took_ticket t) refl
    (unmoved_since mid (g.O.HasHeap.heap c.link_next.new.o) new _ (ap (λ (h : Heap). h.moves) same)
    (ap (λ (h : Heap). h.spare) same) c.in_err-link_last.ensures.refused))

pub returns-clause-entered : goal.returns-clause-entered
returns-clause-entered g c =
    let t = rw c.place_for.ensures.looks.same at c.in_ok-added.ensures.taken in
    enters t c.in_ok-link_next.ensures.linked c.in_ok-link_last.ensures.linked c.requires.new c.in_ok-place.ensures.found
