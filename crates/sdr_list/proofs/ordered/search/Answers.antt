-- The element is where the walk ended.
use Rattle.std.proofs.lemmas.Result.{IfOk-weaker}
use Rattle.sdr_list.specs.Calls.{TellsOfList}
use Rattle.sdr_list.specs.Orders.{FindsEqual, equal_addr, sort_key}
use Rattle.sdr_list.proofs.PlaceLemmas.{key_short}
use Rattle.sdr_list.proofs.ordered.search.Goals as goal

pub first_equal-requires-clause-list : goal.first_equal-requires-clause-list
first_equal-requires-clause-list g c =
    rw (c.read_key.ensures.looks.same, c.expect_kind.ensures.looks.same) (c.requires.list c.in_ok-expect_kind.ensures.found)

pub first_equal-requires-clause-key : goal.first_equal-requires-clause-key
first_equal-requires-clause-key g c = key_short c.in_ok-count.ensures.given

pub returns-clause-found : goal.returns-clause-found
returns-clause-found g c =
    let old = g.O.HasHeap.heap c.args.o.now in
    let order = g.F.Collate.order c.args.by.now.by in
    let key = rw c.expect_kind.ensures.looks.same at c.in_ok-count.ensures.given in
    let found = rw (c.read_key.ensures.looks.same, c.expect_kind.ensures.looks.same) at c.first_equal.ensures.found in
    IfOk-weaker _ _ (TellsOfList c.args.list (equal_addr order old.blocks c.args.datum) old.blocks)
    (λ addr f. record { kind = c.in_ok-expect_kind.ensures.found; tells = λ row k. (let e : FindsEqual order old.blocks c.args.list (sort_key old.blocks c.args.datum) addr = rw key.key at f in e.equal row k) })
    found
