-- The place is where the walk ended.
use Rattle.sdr_base.proofs.HeapLemmas.{ok_both}
use Rattle.sdr_list.specs.Calls.{InsertsInList}
use Rattle.sdr_list.specs.Orders.{FindsPlace, ordered_place, sort_key}
use Rattle.sdr_list.proofs.InOrderLemmas.{ok_any, stays_in_order}
use Rattle.sdr_list.proofs.PlaceLemmas.{inserts_in, key_short, ordered_at, ordered_behind}
use Rattle.sdr_list.proofs.ordered.insert_ordered.Goals as goal

pub last_upto-requires-clause-list : goal.last_upto-requires-clause-list
last_upto-requires-clause-list g c =
    rw (c.read_key.ensures.looks.same, c.expect_kind.ensures.looks.same) (c.requires.list c.in_ok-expect_kind.ensures.found)

pub last_upto-requires-clause-key : goal.last_upto-requires-clause-key
last_upto-requires-clause-key g c = key_short c.in_ok-count.ensures.given

pub following-requires-clause-place : goal.following-requires-clause-place
following-requires-clause-place g c =
    let found = rw (c.read_key.ensures.looks.same, c.expect_kind.ensures.looks.same) at c.in_ok-prev.ensures.found in
    rw (c.last_upto.ensures.looks.same, c.read_key.ensures.looks.same, c.expect_kind.ensures.looks.same)
    (ordered_behind found (c.requires.list c.in_ok-expect_kind.ensures.found))

pub insert_between-requires-clause-place : goal.insert_between-requires-clause-place
insert_between-requires-clause-place g c =
    let k = c.requires.list c.in_ok-expect_kind.ensures.found in
    let found = rw (c.read_key.ensures.looks.same, c.expect_kind.ensures.looks.same) at c.in_ok-prev.ensures.found in
    let next = rw (c.last_upto.ensures.looks.same, c.read_key.ensures.looks.same, c.expect_kind.ensures.looks.same)
    at c.in_ok-next.ensures.given in
    rw (c.following.ensures.looks.same, c.last_upto.ensures.looks.same, c.read_key.ensures.looks.same, c.expect_kind.ensures.looks.same)
    (record { row = k.row; place = _; is = ordered_at found next k.keeps })

pub returns-clause-inserted : goal.returns-clause-inserted
returns-clause-inserted g c =
    let old = g.O.HasHeap.heap c.args.o.now in
    let new = g.O.HasHeap.heap c.insert_between.new.o in
    let order = g.F.Collate.order c.args.by.now.by in
    let key = rw c.expect_kind.ensures.looks.same at c.in_ok-count.ensures.given in
    let found = rw (c.read_key.ensures.looks.same, c.expect_kind.ensures.looks.same) at c.in_ok-prev.ensures.found in
    let here : FindsPlace order old.blocks c.args.list (sort_key old.blocks c.args.datum) c.in_ok-prev.prev = rw key.key at found in
    let next = rw (c.last_upto.ensures.looks.same, c.read_key.ensures.looks.same, c.expect_kind.ensures.looks.same)
    at c.in_ok-next.ensures.given in
    ok_both _ _ _ {R = λ addr. InsertsInList c.args.list (ordered_place order old.blocks c.args.datum) c.args.datum addr old new}
    (λ addr i m. inserts_in old new (ordered_place order old.blocks c.args.datum)
    c.in_ok-expect_kind.ensures.found (λ row k. ordered_at here next k) i m)
    (rw (c.following.ensures.looks.same, c.last_upto.ensures.looks.same, c.read_key.ensures.looks.same, c.expect_kind.ensures.looks.same)
    at c.insert_between.ensures.inserted)
    (rw (c.following.ensures.looks.same, c.last_upto.ensures.looks.same, c.read_key.ensures.looks.same, c.expect_kind.ensures.looks.same)
    at c.insert_between.ensures.made)

pub returns-clause-ordered : goal.returns-clause-ordered
returns-clause-ordered g c =
    ok_any c.insert_between.result _
    (λ addr. stays_in_order (g.met.F.Collate.total c.args.by.now.by) (g.O.HasHeap.heap c.args.o.now).blocks c.args.list c.args.datum addr)
