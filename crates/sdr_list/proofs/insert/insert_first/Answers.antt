-- The place is the front.
use Rattle.sdr_base.proofs.HeapLemmas.{ok_both}
use Rattle.sdr_list.specs.Calls.{InsertsInList}
use Rattle.sdr_list.proofs.PlaceLemmas.{front_place, inserts_in}
use Rattle.sdr_list.proofs.insert.insert_first.Goals as goal

pub insert_between-requires-clause-place : goal.insert_between-requires-clause-place
insert_between-requires-clause-place g c =
    let k = c.requires.list c.in_ok-first.ensures.found in
    rw c.list_word.ensures.looks.same (record { row = k.row; place = _; is = front_place c.in_ok-first.ensures.given k.keeps })

pub returns-clause-inserted : goal.returns-clause-inserted
returns-clause-inserted g c =
    let old = g.O.HasHeap.heap c.args.o.now in
    let new = g.O.HasHeap.heap c.insert_between.new.o in
    ok_both _ _ _ {R = λ addr. InsertsInList c.args.list (λ row. 0) c.args.datum addr old new}
    (λ addr i m. inserts_in old new (λ row. 0) c.in_ok-first.ensures.found (λ row k. front_place c.in_ok-first.ensures.given k) i m)
    (rw c.list_word.ensures.looks.same at c.insert_between.ensures.inserted)
    (rw c.list_word.ensures.looks.same at c.insert_between.ensures.made)
