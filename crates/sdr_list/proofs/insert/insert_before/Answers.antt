-- The place is that of the element.
use Rattle.std.proofs.Common.{arith}
use Rattle.sdr_base.proofs.HeapLemmas.{ok_both}
use Rattle.sdr_base.proofs.WritingLemmas.{reaches_less}
use Rattle.sdr_list.specs.Calls.{InsertsBeside}
use Rattle.sdr_list.proofs.KeptLemmas.{element_reaches}
use Rattle.sdr_list.proofs.PlaceLemmas.{before_place, inserts_beside}
use Rattle.sdr_list.proofs.insert.insert_before.Goals as goal

pub word-requires-clause-inside : goal.word-requires-clause-inside
word-requires-clause-inside g c =
    rw c.element_word.ensures.looks.same
    (reaches_less _ 32 _ (element_reaches (c.requires.element c.in_ok-list.ensures.found).is) (omega arith))

pub insert_between-requires-clause-place : goal.insert_between-requires-clause-place
insert_between-requires-clause-place g c =
    let s = c.requires.element c.in_ok-list.ensures.found in
    let n = rw c.element_word.ensures.looks.same at c.in_ok-prev.ensures.given in
    rw (c.word.ensures.looks.same, c.element_word.ensures.looks.same)
    (record { row = s.spot.row; place = _; is = before_place c.in_ok-list.ensures.given n s.is })

pub returns-clause-inserted : goal.returns-clause-inserted
returns-clause-inserted g c =
    let old = g.O.HasHeap.heap c.args.o.now in
    let new = g.O.HasHeap.heap c.insert_between.new.o in
    let h = c.in_ok-list.ensures.given in
    let n = rw c.element_word.ensures.looks.same at c.in_ok-prev.ensures.given in
    ok_both _ _ _ {R = λ addr. InsertsBeside c.args.element (λ place. place) c.args.datum addr old new}
    (λ addr i m. inserts_beside old new (λ place. place) c.in_ok-list.ensures.found h (λ spot s. before_place h n s) i m)
    (rw (c.word.ensures.looks.same, c.element_word.ensures.looks.same) at c.insert_between.ensures.inserted)
    (rw (c.word.ensures.looks.same, c.element_word.ensures.looks.same) at c.insert_between.ensures.made)
