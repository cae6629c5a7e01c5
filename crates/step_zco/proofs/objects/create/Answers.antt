-- An object, made or refused.
use Rattle.std.proofs.Common.{rules, Err}
use Rattle.step_things.specs.Answering.{ComesInEach}
use Rattle.step_things.proofs.CallLemmas.{comes_answered, comes_stopped}
use Rattle.sdr_model.specs.declared.answer.Reply.TheVariants as replies
use Rattle.sdr_model.specs.declared.call.Call.TheVariants as calls
use Rattle.step_zco.proofs.CreateCalls.{created, uncreated}
use Rattle.zco_obj.specs.Making.{CreateStops}
use Rattle.step_zco.proofs.objects.create.Goals as goal

pub returns-in_err-addr-clause-comes : goal.returns-in_err-addr-clause-comes
returns-in_err-addr-clause-comes g c =
    let old = g.O.HasHeap.heap c.args.o.now in
    let new = g.O.HasHeap.heap c.create.new.o in
    let page = c.args.page.now in
    let call = calls.Create c.args.acct c.args.ticket in
    let fact : ComesInEach call old new page page (Err c.in_err-addr.field-0.0) =
    comes_stopped call old new page c.in_err-addr.field-0.0 (CreateStops c.args.acct c.args.ticket old new)
    c.in_err-addr.ensures.refused
    (λ w refusal stands served m.
    uncreated old new w c.requires.unmoved stands served c.args.acct c.args.ticket page refusal m) in
    search rules

pub returns-clause-comes : goal.returns-clause-comes
returns-clause-comes g c =
    let old = g.O.HasHeap.heap c.args.o.now in
    let new = g.O.HasHeap.heap c.create.new.o in
    comes_answered (calls.Create c.args.acct c.args.ticket) old new c.args.page.now c.clear.new.self (replies.At c.in_ok-addr.addr)
    c.clear.ensures
    (λ w stands served. created old new w c.requires.unmoved stands served c.args.acct c.args.ticket c.in_ok-addr.addr
    c.in_ok-addr.ensures.made)
