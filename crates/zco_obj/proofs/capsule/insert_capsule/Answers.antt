-- The block is linked on either side.
use Rattle.std.proofs.Common.{refl}
use Rattle.std.proofs.lemmas.Result.{err_from_is_err_and}
use Rattle.sdr_base.proofs.HeapLemmas.{short_after}
use Rattle.zco_acct.proofs.MoveLemmas.{unmoved_since}
use Rattle.sdr_base.specs.Objects.{Heap}
use Rattle.std.proofs.Common.{ap}
use Rattle.zco_obj.proofs.PlaceLemmas.{gap_reaches, inserts, previous_reaches, still_reaches, took_capsule}
use Rattle.zco_obj.proofs.capsule.insert_capsule.Goals as goal

pub link_next-requires-clause-object : goal.link_next-requires-clause-object
link_next-requires-clause-object g c = gap_reaches c.in_ok-added.ensures.taken c.requires.gap

pub link_next-requires-clause-prev : goal.link_next-requires-clause-prev
link_next-requires-clause-prev g c = previous_reaches c.in_ok-added.ensures.taken c.requires.gap

pub returns-in_err-link_next-clause-refused : goal.returns-in_err-link_next-clause-refused
returns-in_err-link_next-clause-refused g c =
    let p = err_from_is_err_and c.from_residual-in_err-link_next.result c.from_residual-in_err-link_next.ensures.1 in
    rw (p.1, p.2)
    (short_after (g.O.HasHeap.heap c.take_capsule.new.o) (g.O.HasHeap.heap c.link_next.new.o) _
    (took_capsule c.in_ok-added.ensures.taken) refl c.in_err-link_next.ensures.refused)

pub link_last-requires-clause-object : goal.link_last-requires-clause-object
link_last-requires-clause-object g c =
    still_reaches c.in_ok-added.ensures.taken c.in_ok-link_next.ensures.linked c.requires.gap

pub returns-in_err-link_last-clause-refused : goal.returns-in_err-link_last-clause-refused
returns-in_err-link_last-clause-refused g c =
    let p = err_from_is_err_and c.from_residual-in_err-link_last.result c.from_residual-in_err-link_last.ensures.1 in
    let mid = g.O.HasHeap.heap c.take_capsule.new.o in
    let new = g.O.HasHeap.heap c.link_last.new.o in
    let same = c.in_ok-link_next.ensures.linked.same in
    rw (p.1, p.2)
    (short_after mid new _ (took_capsule c.in_ok-added.ensures.taken) refl
    (unmoved_since mid (g.O.HasHeap.heap c.link_next.new.o) new _ (ap (λ (h : Heap). h.moves) same)
    (ap (λ (h : Heap). h.spare) same) c.in_err-link_last.ensures.refused))

pub returns-clause-inserted : goal.returns-clause-inserted
returns-clause-inserted g c =
    inserts c.in_ok-added.ensures.taken c.in_ok-link_next.ensures.linked c.in_ok-link_last.ensures.linked
