-- The place is the end.
use Rattle.std.proofs.Common.{length}
use Rattle.sdr_base.proofs.HeapLemmas.{ok_both}
use Rattle.sdr_list.specs.Calls.{InsertsInList}
use Rattle.sdr_list.proofs.PlaceLemmas.{end_place, inserts_in}
use Rattle.sdr_list.proofs.insert.insert_last.Goals as goal

pub insert_between-requires-clause-place : goal.insert_between-requires-clause-place
insert_between-requires-clause-place g c =
    let k = c.requires.list c.in_ok-last.ensures.found in
    rw c.list_word.ensures.looks.same (record { row = k.row; place = _; is = end_place c.in_ok-last.ensures.given k.keeps })

pub returns-clause-inserted : goal.returns-clause-inserted
returns-clause-inserted g c =
    let old = g.O.HasHeap.heap c.args.o.now in
    let new = g.O.HasHeap.heap c.insert_between.new.o in
    ok_both _ _ _ {R = λ addr. InsertsInList c.args.list (λ row. length row.elements) c.args.datum addr old new}
    (λ addr i m. inserts_in old new (λ row. length row.elements) c.in_ok-last.ensures.found (λ row k. end_place c.in_ok-last.ensures.given k) i m)
    (rw c.list_word.ensures.looks.same at c.insert_between.ensures.inserted)
    (rw c.list_word.ensures.looks.same at c.insert_between.ensures.made)
