-- The account is charged, the parts are bonded, and the object's block tells of them.
use Rattle.std.proofs.Common.{arith}
use Rattle.std.proofs.lemmas.Result.{IfErr-weaker, err_from_is_err_and, on_ok_weaker}
use Rattle.sdr_base.proofs.WorksLemmas.{looks_then, looks_works, works_more, works_stopped, works_then}
use Rattle.zco_bond.specs.Bonding.{BondStops}
use Rattle.zco_bond.proofs.BondLemmas.{block_there, bond_faults, bonds_object, extents_there, missed, object_then, to_bond, unbonded_stops, uncharged, unset_stops, with_queue}
use Rattle.zco_bond.proofs.bonding.bond.Goals as goal

pub returns-in_err-expect_kind-clause-refused : goal.returns-in_err-expect_kind-clause-refused
returns-in_err-expect_kind-clause-refused g c =
    let p = err_from_is_err_and c.from_residual.result c.from_residual.ensures.1 in
    rw (p.1, p.2)
    (missed c.args.object c.args.ticket (g.O.HasHeap.heap c.args.o.now) (g.O.HasHeap.heap c.expect_kind.new.o) _
    c.in_err-expect_kind.ensures.refused c.expect_kind.ensures.looks.same)

pub charge_bond-requires-clause-object : goal.charge_bond-requires-clause-object
charge_bond-requires-clause-object g c =
    rw c.expect_kind.ensures.looks.same (with_queue (c.requires.object c.in_ok-expect_kind.ensures.found))

pub returns-in_err-charge_bond-clause-refused : goal.returns-in_err-charge_bond-clause-refused
returns-in_err-charge_bond-clause-refused g c =
    let p = err_from_is_err_and c.from_residual-in_err-charge_bond.result c.from_residual-in_err-charge_bond.ensures.1 in
    let is = c.in_ok-expect_kind.ensures.found in
    rw (p.1, p.2)
    (uncharged is (c.requires.object is) c.args.ticket (g.O.HasHeap.heap c.charge_bond.new.o) _
    (rw c.expect_kind.ensures.looks.same at c.in_err-charge_bond.ensures.refused))

pub bond_parts-requires-clause-object : goal.bond_parts-requires-clause-object
bond_parts-requires-clause-object g c =
    let is = c.in_ok-expect_kind.ensures.found in
    to_bond is (c.requires.object is) (rw c.expect_kind.ensures.looks.same at c.in_ok-charge_bond.ensures.charged)

pub returns-in_err-chain-clause-refused : goal.returns-in_err-chain-clause-refused
returns-in_err-chain-clause-refused g c =
    let p = err_from_is_err_and c.from_residual-in_err-chain.result c.from_residual-in_err-chain.ensures.1 in
    let is = c.in_ok-expect_kind.ensures.found in
    let d = rw c.expect_kind.ensures.looks.same at c.in_ok-charge_bond.ensures.charged in
    rw (p.1, p.2)
    (unbonded_stops is (c.requires.object is) d (g.O.HasHeap.heap c.bond_parts.new.o) _ c.in_err-chain.ensures.refused)

pub extents_length-requires-clause-chain : goal.extents_length-requires-clause-chain
extents_length-requires-clause-chain g c =
    let is = c.in_ok-expect_kind.ensures.found in
    let d = rw c.expect_kind.ensures.looks.same at c.in_ok-charge_bond.ensures.charged in
    extents_there is (c.requires.object is) d c.in_ok-chain.ensures.bonded

pub returns-in_err-bytes-clause-refused : goal.returns-in_err-bytes-clause-refused
returns-in_err-bytes-clause-refused g c =
    let p = err_from_is_err_and c.from_residual-in_err-bytes.result c.from_residual-in_err-bytes.ensures.1 in
    rw (p.1, p.2)
    (bond_faults c.args.object c.args.ticket (g.O.HasHeap.heap c.args.o.now) (g.O.HasHeap.heap c.extents_length.new.o) _
    c.in_err-bytes.ensures.refused)

pub set_whole-requires-clause-object : goal.set_whole-requires-clause-object
set_whole-requires-clause-object g c =
    let is = c.in_ok-expect_kind.ensures.found in
    let d = rw c.expect_kind.ensures.looks.same at c.in_ok-charge_bond.ensures.charged in
    rw c.extents_length.ensures.looks.same (block_there is (c.requires.object is) d c.in_ok-chain.ensures.bonded)

pub returns-clause-bonded : goal.returns-clause-bonded
returns-clause-bonded g c =
    let is = c.in_ok-expect_kind.ensures.found in
    let d = rw c.expect_kind.ensures.looks.same at c.in_ok-charge_bond.ensures.charged in
    let w = rw c.extents_length.ensures.looks.same at c.set_whole.ensures.set in
    on_ok_weaker _
    (λ w. bonds_object is (c.requires.object is) d c.in_ok-chain.ensures.bonded c.in_ok-bytes.bytes c.in_ok-bytes.ensures.told w) w

pub returns-clause-refused : goal.returns-clause-refused
returns-clause-refused g c =
    let is = c.in_ok-expect_kind.ensures.found in
    let old = g.O.HasHeap.heap c.args.o.now in
    let new = g.O.HasHeap.heap c.set_whole.new.o in
    let d = rw c.expect_kind.ensures.looks.same at c.in_ok-charge_bond.ensures.charged in
    let u = rw c.extents_length.ensures.looks.same at c.set_whole.ensures.refused in
    IfErr-weaker _ _ (BondStops c.args.object c.args.ticket old new)
    (λ stop u. unset_stops is (c.requires.object is) d c.in_ok-chain.ensures.bonded new stop u) u

pub returns-in_err-expect_kind-clause-works : goal.returns-in_err-expect_kind-clause-works
returns-in_err-expect_kind-clause-works g c =
    let p = err_from_is_err_and c.from_residual.result c.from_residual.ensures.1 in
    λ row tickets k. rw (p.1, p.2) (works_stopped _ (works_more (looks_works c.in_err-expect_kind.ensures.looks) (omega arith)))

pub returns-in_err-charge_bond-clause-works : goal.returns-in_err-charge_bond-clause-works
returns-in_err-charge_bond-clause-works g c =
    let p = err_from_is_err_and c.from_residual-in_err-charge_bond.result c.from_residual-in_err-charge_bond.ensures.1 in
    λ row tickets k. rw (p.1, p.2)
    (works_stopped _ (works_more (looks_then c.in_ok-expect_kind.ensures.looks c.in_err-charge_bond.ensures.works) (omega arith)))

pub returns-in_err-chain-clause-works : goal.returns-in_err-chain-clause-works
returns-in_err-chain-clause-works g c =
    let p = err_from_is_err_and c.from_residual-in_err-chain.result c.from_residual-in_err-chain.ensures.1 in
    let is = c.in_ok-expect_kind.ensures.found in
    let d = rw c.expect_kind.ensures.looks.same at c.in_ok-charge_bond.ensures.charged in
    λ row tickets k. rw (p.1, p.2)
    (works_stopped _
    (works_more
    (works_then (looks_then c.in_ok-expect_kind.ensures.looks c.in_ok-charge_bond.ensures.works)
    (c.in_err-chain.ensures.works row (object_then is (c.requires.object is) d k))) (omega arith)))

pub returns-in_err-bytes-clause-works : goal.returns-in_err-bytes-clause-works
returns-in_err-bytes-clause-works g c =
    let p = err_from_is_err_and c.from_residual-in_err-bytes.result c.from_residual-in_err-bytes.ensures.1 in
    let is = c.in_ok-expect_kind.ensures.found in
    let d = rw c.expect_kind.ensures.looks.same at c.in_ok-charge_bond.ensures.charged in
    λ row tickets k. rw (p.1, p.2)
    (works_stopped _
    (works_more
    (works_then
    (works_then (looks_then c.in_ok-expect_kind.ensures.looks c.in_ok-charge_bond.ensures.works)
    (c.in_ok-chain.ensures.works row (object_then is (c.requires.object is) d k)))
    (looks_works c.in_err-bytes.ensures.looks)) (omega arith)))

pub returns-clause-works : goal.returns-clause-works
returns-clause-works g c =
    let is = c.in_ok-expect_kind.ensures.found in
    let d = rw c.expect_kind.ensures.looks.same at c.in_ok-charge_bond.ensures.charged in
    λ row tickets k.
    works_more
    (works_then
    (works_then (looks_then c.in_ok-expect_kind.ensures.looks c.in_ok-charge_bond.ensures.works)
    (c.in_ok-chain.ensures.works row (object_then is (c.requires.object is) d k)))
    (looks_then c.in_ok-bytes.ensures.looks c.set_whole.ensures.works)) (omega arith)

pub extents_length-requires-clause-kept : goal.extents_length-requires-clause-kept
extents_length-requires-clause-kept g c =
    let is = c.in_ok-expect_kind.ensures.found in
    let d = rw c.expect_kind.ensures.looks.same at c.in_ok-charge_bond.ensures.charged in
    let q = c.requires.object is in (c.in_ok-chain.ensures.works q.row (object_then is q d q.keeps)).kept
