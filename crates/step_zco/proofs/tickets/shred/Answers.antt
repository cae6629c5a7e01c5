-- A ticket goes, or the call is refused.
use Rattle.std.proofs.Common.{arith, rules, Err}
use Rattle.std.proofs.lemmas.Result.{err_from_is_err_and}
use Rattle.step_things.specs.Answering.{ComesInEach}
use Rattle.sdr_base.proofs.WorksLemmas.{works_more, works_ok, works_stopped}
use Rattle.sdr_base.specs.declared.account.Acct.TheVariants as accts
use Rattle.sdr_model.specs.declared.answer.Reply.TheVariants as replies
use Rattle.sdr_model.specs.declared.call.Call.TheVariants as calls
use Rattle.step_things.proofs.CallLemmas.{comes_answered, comes_stopped}
use Rattle.step_zco.proofs.ComingLemmas.{tickets_kept}
use Rattle.step_zco.proofs.QueueLemmas.{queue_kept}
use Rattle.step_zco.proofs.ShredCalls.{shred_grants, shredded_answered, shredded_refused}
use Rattle.zco_space.specs.Shreds.{ShredStops}
use Rattle.step_zco.proofs.tickets.shred.Goals as goal

pub returns-in_err-shred-clause-comes : goal.returns-in_err-shred-clause-comes
returns-in_err-shred-clause-comes g c =
    let old = g.O.HasHeap.heap c.args.o.now in
    let new = g.O.HasHeap.heap c.shred.new.o in
    let page = c.args.page.now in
    let fact : ComesInEach (calls.Shred c.args.ticket) old new page page (Err c.in_err-shred.field-0.0) =
    comes_stopped (calls.Shred c.args.ticket) old new page c.in_err-shred.field-0.0 (ShredStops c.args.ticket old new)
    c.in_err-shred.ensures.refused
    (λ w refusal stands served m. shredded_refused old new w c.args.ticket page refusal c.requires.unmoved stands served m) in
    search rules

pub returns-in_err-shred-clause-works : goal.returns-in_err-shred-clause-works
returns-in_err-shred-clause-works g c =
    let old = g.O.HasHeap.heap c.args.o.now in
    let p = err_from_is_err_and c.from_residual.result c.from_residual.ensures.1 in
    λ w stands served.
    let many = shred_grants old w c.args.ticket stands served in
    rw (p.1, p.2)
    (works_stopped _ (works_more (c.in_err-shred.ensures.works w.accounts.inbound.tickets w.accounts.outbound.tickets
    (queue_kept accts.Inbound stands (tickets_kept served)) (queue_kept accts.Outbound stands (tickets_kept served)))
    (omega (arith, many))))

pub returns-clause-comes : goal.returns-clause-comes
returns-clause-comes g c =
    let old = g.O.HasHeap.heap c.args.o.now in
    let new = g.O.HasHeap.heap c.shred.new.o in
    comes_answered (calls.Shred c.args.ticket) old new c.args.page.now c.clear.new.self replies.Done c.clear.ensures
    (λ w stands served. shredded_answered old new w c.args.ticket c.requires.unmoved stands served c.in_ok-shred.ensures.shredded)

pub returns-clause-works : goal.returns-clause-works
returns-clause-works g c =
    let old = g.O.HasHeap.heap c.args.o.now in
    λ w stands served.
    let many = shred_grants old w c.args.ticket stands served in
    works_ok (works_more (c.in_ok-shred.ensures.works w.accounts.inbound.tickets w.accounts.outbound.tickets
    (queue_kept accts.Inbound stands (tickets_kept served)) (queue_kept accts.Outbound stands (tickets_kept served)))
    (omega (arith, many)))
