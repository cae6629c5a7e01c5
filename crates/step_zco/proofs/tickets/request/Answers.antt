-- A ticket is given, or the call is refused.
use Rattle.std.proofs.Common.{arith, rules, Err}
use Rattle.std.proofs.lemmas.Result.{err_from_is_err_and}
use Rattle.step_things.specs.Answering.{ComesInEach}
use Rattle.sdr_base.proofs.WorksLemmas.{works_more, works_ok, works_stopped}
use Rattle.sdr_model.specs.Accounts.{tickets_of}
use Rattle.sdr_model.specs.declared.answer.Reply.TheVariants as replies
use Rattle.step_things.proofs.CallLemmas.{comes_answered, comes_stopped}
use Rattle.step_zco.proofs.ComingLemmas.{tickets_kept}
use Rattle.step_zco.proofs.QueueLemmas.{queue_kept}
use Rattle.step_zco.proofs.RequestCalls.{asks, request_grants, requested_answered, requested_refused}
use Rattle.zco_space.specs.Requests.{RequestStops}
use Rattle.step_zco.proofs.tickets.request.Goals as goal

pub returns-in_err-number-clause-comes : goal.returns-in_err-number-clause-comes
returns-in_err-number-clause-comes g c =
    let old = g.O.HasHeap.heap c.args.o.now in
    let new = g.O.HasHeap.heap c.request.new.o in
    let page = c.args.page.now in
    let a = c.args.asking.now in
    let call = asks a.acct a.asked a.coarse a.fine in
    let fact : ComesInEach call old new page page (Err c.in_err-number.field-0.0) =
    comes_stopped call old new page c.in_err-number.field-0.0 (RequestStops a.acct a.asked old new)
    c.in_err-number.ensures.refused
    (λ w refusal stands served m.
    requested_refused old new w a.acct a.asked a.coarse a.fine page refusal c.requires.unmoved stands served m) in
    search rules

pub returns-in_err-number-clause-works : goal.returns-in_err-number-clause-works
returns-in_err-number-clause-works g c =
    let old = g.O.HasHeap.heap c.args.o.now in
    let new = g.O.HasHeap.heap c.request.new.o in
    let a = c.args.asking.now in
    let p = err_from_is_err_and c.from_residual.result c.from_residual.ensures.1 in
    λ w stands served.
    let many = request_grants old new w a.acct a.asked a.coarse a.fine stands served in
    rw (p.1, p.2)
    (works_stopped _ (works_more (c.in_err-number.ensures.works (tickets_of w.accounts a.acct)
    (queue_kept a.acct stands (tickets_kept served))) (omega (arith, many))))

pub returns-clause-comes : goal.returns-clause-comes
returns-clause-comes g c =
    let old = g.O.HasHeap.heap c.args.o.now in
    let new = g.O.HasHeap.heap c.request.new.o in
    let a = c.args.asking.now in
    comes_answered (asks a.acct a.asked a.coarse a.fine) old new c.args.page.now c.clear.new.self
    (replies.Ticket c.in_ok-number.number c.in_ok-number.granted) c.clear.ensures
    (λ w stands served. requested_answered old new w a.acct a.asked a.coarse a.fine
    (c.in_ok-number.number, c.in_ok-number.granted)
    c.requires.unmoved stands served c.in_ok-number.ensures.requested)

pub returns-clause-works : goal.returns-clause-works
returns-clause-works g c =
    let old = g.O.HasHeap.heap c.args.o.now in
    let new = g.O.HasHeap.heap c.request.new.o in
    let a = c.args.asking.now in
    λ w stands served.
    let many = request_grants old new w a.acct a.asked a.coarse a.fine stands served in
    works_ok (works_more (c.in_ok-number.ensures.works (tickets_of w.accounts a.acct)
    (queue_kept a.acct stands (tickets_kept served))) (omega (arith, many)))
