-- The words of the element say its list and its neighbours.
use Rattle.std.proofs.Common.{arith}
use Rattle.sdr_base.proofs.HeapLemmas.{ok_two}
use Rattle.sdr_base.proofs.WritingLemmas.{reaches_less}
use Rattle.sdr_list.proofs.DeleteLemmas.{deletes}
use Rattle.sdr_list.proofs.KeptLemmas.{element_reaches, next_is, owner_is, previous_is}
use Rattle.sdr_list.proofs.remove.delete.Goals as goal

pub word-requires-clause-inside : goal.word-requires-clause-inside
word-requires-clause-inside g c =
    rw c.element_word.ensures.looks.same
    (reaches_less _ 32 _ (element_reaches (c.requires.element c.in_ok-list.ensures.found).is) (omega arith))

pub word-requires-2-clause-inside : goal.word-requires-2-clause-inside
word-requires-2-clause-inside g c =
    rw (c.word.ensures.looks.same, c.element_word.ensures.looks.same)
    (reaches_less _ 32 _ (element_reaches (c.requires.element c.in_ok-list.ensures.found).is) (omega arith))

pub unlink-requires-clause-between : goal.unlink-requires-clause-between
unlink-requires-clause-between g c =
    let s = c.requires.element c.in_ok-list.ensures.found in
    let h = c.in_ok-list.ensures.given in
    let p = rw c.element_word.ensures.looks.same at c.in_ok-prev.ensures.given in
    let n = rw (c.word.ensures.looks.same, c.element_word.ensures.looks.same) at c.in_ok-next.ensures.given in
    rw (c.word-2.ensures.looks.same, c.word.ensures.looks.same, c.element_word.ensures.looks.same)
    (record {
      spot = s.spot;
      is = record { is = s.is; in_list = owner_is h s.is; at_prev = previous_is p s.is; at_next = next_is n s.is };
    })

pub returns-clause-deleted : goal.returns-clause-deleted
returns-clause-deleted g c =
    let old = g.O.HasHeap.heap c.args.o.now in
    let new = g.O.HasHeap.heap c.unlink.new.o in
    let h = c.in_ok-list.ensures.given in
    let p = rw c.element_word.ensures.looks.same at c.in_ok-prev.ensures.given in
    let n = rw (c.word.ensures.looks.same, c.element_word.ensures.looks.same) at c.in_ok-next.ensures.given in
    ok_two _ (λ u m. deletes old new c.in_ok-list.ensures.found h p n u m)
    (rw (c.word-2.ensures.looks.same, c.word.ensures.looks.same, c.element_word.ensures.looks.same) at c.unlink.ensures.unlinked)
    (rw (c.word-2.ensures.looks.same, c.word.ensures.looks.same, c.element_word.ensures.looks.same) at c.unlink.ensures.made)
