-- Both chains are summed, and the account is charged for the sum.
use Rattle.std.proofs.lemmas.Result.{IfErr-weaker, err_from_is_err_and, on_ok_weaker}
use Rattle.zco_obj.proofs.ChargeLemmas.{some_object}
use Rattle.zco_bond.specs.Charging.{BondChargeStops}
use Rattle.zco_bond.proofs.RiseLemmas.{bond_uncharged, charge_faults, charges_bond, some_headers, some_trailers}
use Rattle.zco_bond.proofs.charging.charge_bond.Goals as goal

pub first_parts-requires-clause-object : goal.first_parts-requires-clause-object
first_parts-requires-clause-object g c = some_object c.requires.object

pub returns-in_err-first-clause-refused : goal.returns-in_err-first-clause-refused
returns-in_err-first-clause-refused g c =
    let p = err_from_is_err_and c.from_residual.result c.from_residual.ensures.1 in
    rw (p.1, p.2)
    (charge_faults c.args.object c.args.ticket (g.O.HasHeap.heap c.args.o.now) (g.O.HasHeap.heap c.first_parts.new.o) _
    c.in_err-first.ensures.refused)

pub bond_rise-requires-clause-chain : goal.bond_rise-requires-clause-chain
bond_rise-requires-clause-chain g c = rw c.first_parts.ensures.looks.same (some_headers c.in_ok-first.ensures.told c.requires.object)

pub returns-in_err-headers-clause-refused : goal.returns-in_err-headers-clause-refused
returns-in_err-headers-clause-refused g c =
    let p = err_from_is_err_and c.from_residual-in_err-headers.result c.from_residual-in_err-headers.ensures.1 in
    rw (p.1, p.2)
    (charge_faults c.args.object c.args.ticket (g.O.HasHeap.heap c.args.o.now) (g.O.HasHeap.heap c.bond_rise.new.o) _
    c.in_err-headers.ensures.refused)

pub bond_rise-requires-2-clause-chain : goal.bond_rise-requires-2-clause-chain
bond_rise-requires-2-clause-chain g c =
    rw (c.bond_rise.ensures.looks.same, c.first_parts.ensures.looks.same) (some_trailers c.in_ok-first.ensures.told c.requires.object)

pub returns-in_err-trailers-clause-refused : goal.returns-in_err-trailers-clause-refused
returns-in_err-trailers-clause-refused g c =
    let p = err_from_is_err_and c.from_residual-in_err-trailers.result c.from_residual-in_err-trailers.ensures.1 in
    rw (p.1, p.2)
    (charge_faults c.args.object c.args.ticket (g.O.HasHeap.heap c.args.o.now) (g.O.HasHeap.heap c.bond_rise-2.new.o) _
    c.in_err-trailers.ensures.refused)

pub charge_object-requires-clause-object : goal.charge_object-requires-clause-object
charge_object-requires-clause-object g c =
    rw (c.bond_rise-2.ensures.looks.same, c.bond_rise.ensures.looks.same, c.first_parts.ensures.looks.same) c.requires.object

pub returns-clause-charged : goal.returns-clause-charged
returns-clause-charged g c =
    let h = rw c.first_parts.ensures.looks.same at c.in_ok-headers.ensures.told in
    let t = rw (c.bond_rise.ensures.looks.same, c.first_parts.ensures.looks.same) at c.in_ok-trailers.ensures.told in
    let d = rw (c.bond_rise-2.ensures.looks.same, c.bond_rise.ensures.looks.same, c.first_parts.ensures.looks.same)
    at c.charge_object.ensures.charged in
    on_ok_weaker _
    (λ d. charges_bond (g.O.HasHeap.heap c.args.o.now) c.in_ok-first.ensures.told c.in_ok-headers.headers c.in_ok-trailers.trailers h t c.heap_amounts.result c.heap_amounts.ensures d) d

pub returns-clause-refused : goal.returns-clause-refused
returns-clause-refused g c =
    let old = g.O.HasHeap.heap c.args.o.now in
    let new = g.O.HasHeap.heap c.charge_object.new.o in
    let h = rw c.first_parts.ensures.looks.same at c.in_ok-headers.ensures.told in
    let t = rw (c.bond_rise.ensures.looks.same, c.first_parts.ensures.looks.same) at c.in_ok-trailers.ensures.told in
    let d = rw (c.bond_rise-2.ensures.looks.same, c.bond_rise.ensures.looks.same, c.first_parts.ensures.looks.same)
    at c.charge_object.ensures.refused in
    IfErr-weaker _ _ (BondChargeStops c.args.object c.args.ticket old new)
    (λ stop s. bond_uncharged old c.in_ok-first.ensures.told c.in_ok-headers.headers c.in_ok-trailers.trailers h t c.args.ticket new c.heap_amounts.result stop
    c.heap_amounts.ensures s) d
