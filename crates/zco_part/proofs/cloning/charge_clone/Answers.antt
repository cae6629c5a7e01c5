-- The extents are counted, and charged with the object.
use Rattle.std.proofs.lemmas.Result.{IfErr-weaker, err_from_is_err_and, on_ok_weaker}
use Rattle.zco_part.specs.Cloning.{StopsClone}
use Rattle.zco_part.proofs.AskedLemmas.{charges_clone, fault_clone, stops_clone}
use Rattle.zco_part.proofs.cloning.charge_clone.Goals as goal

pub returns-in_err-extents-clause-refused : goal.returns-in_err-extents-clause-refused
returns-in_err-extents-clause-refused g c =
    let p = err_from_is_err_and c.from_residual.result c.from_residual.ensures.1 in
    rw (p.1, p.2)
    (fault_clone c.args.acct c.args.ticket c.args.asked (g.O.HasHeap.heap c.args.o.now) (g.O.HasHeap.heap c.count_pieces.new.o) _
    c.in_err-extents.ensures.refused)

pub returns-clause-charged : goal.returns-clause-charged
returns-clause-charged g c =
    on_ok_weaker _
    (λ w. charges_clone c.args.asked c.in_ok-extents.ensures.told c.heap_amounts.result c.heap_amounts.ensures (rw c.count_pieces.ensures.looks.same at w))
    c.charge.ensures.charged

pub returns-clause-refused : goal.returns-clause-refused
returns-clause-refused g c =
    let old = g.O.HasHeap.heap c.args.o.now in
    let new = g.O.HasHeap.heap c.charge.new.o in
    IfErr-weaker _ _ (StopsClone c.args.acct c.args.ticket c.args.asked old new)
    (λ stop s. stops_clone c.args.asked c.in_ok-extents.ensures.told c.heap_amounts.result new stop c.heap_amounts.ensures s)
    (rw c.count_pieces.ensures.looks.same at c.charge.ensures.refused)
