-- The account is charged, and then the block is taken.
use Rattle.std.proofs.Common.{arith, subst}
use Rattle.std.proofs.lemmas.Result.{IfErr-weaker, IfOk-weaker, err_from_is_err_and}
use Rattle.sdr_base.proofs.WorksLemmas.{works_more, works_then}
use Rattle.zco_acct.specs.Charges.{ChargesAccount, ChargeStops}
use Rattle.zco_obj.specs.Making.{CreatesObject, CreateStops}
use Rattle.zco_obj.proofs.MadeLemmas.{creates, roomless, uncharged}
use Rattle.zco_obj.proofs.object.create.Goals as goal

pub returns-in_err-charge-clause-refused : goal.returns-in_err-charge-clause-refused
returns-in_err-charge-clause-refused g c =
    let p = err_from_is_err_and c.from_residual.result c.from_residual.ensures.1 in
    let old = g.O.HasHeap.heap c.args.o.now in
    let new = g.O.HasHeap.heap c.charge.new.o in
    rw (p.1, p.2)
    (uncharged c.args.acct c.args.ticket old new _ c.requires.queue
    (subst (λ a. ChargeStops c.args.acct c.args.ticket a old new c.in_err-charge.field-0.0) c.heap_amounts.ensures
    c.in_err-charge.ensures.refused))

pub returns-clause-made : goal.returns-clause-made
returns-clause-made g c =
    let old = g.O.HasHeap.heap c.args.o.now in
    let mid = g.O.HasHeap.heap c.charge.new.o in
    let new = g.O.HasHeap.heap c.make_object.new.o in
    let charged = subst (λ a. ChargesAccount c.args.acct c.args.ticket a old mid) c.heap_amounts.ensures c.in_ok-charge.ensures.charged in
    IfOk-weaker _ _ (λ addr. CreatesObject c.args.acct c.args.ticket addr old new)
    (λ addr t. creates c.requires.queue charged t) c.make_object.ensures.made

pub returns-clause-refused : goal.returns-clause-refused
returns-clause-refused g c =
    let old = g.O.HasHeap.heap c.args.o.now in
    let mid = g.O.HasHeap.heap c.charge.new.o in
    let new = g.O.HasHeap.heap c.make_object.new.o in
    let charged = subst (λ a. ChargesAccount c.args.acct c.args.ticket a old mid) c.heap_amounts.ensures c.in_ok-charge.ensures.charged in
    IfErr-weaker _ _ (CreateStops c.args.acct c.args.ticket old new)
    (λ stop s. roomless c.args.acct c.args.ticket old mid new stop c.requires.queue charged s) c.make_object.ensures.refused

pub returns-clause-works : goal.returns-clause-works
returns-clause-works g c = works_more (works_then c.in_ok-charge.ensures.works c.make_object.ensures.works) (omega arith)
