use Rattle.std.proofs.Common.{rules, Err}
use Rattle.step_things.proofs.CallLemmas.{comes_answered, comes_stopped}
use Rattle.step_keyed.proofs.NameCalls.{find_answered, find_refused}
use Rattle.step_things.specs.Answering.{ComesInEach}
use Rattle.sdr_cat.specs.Calls.{FindStops}
use Rattle.sdr_model.specs.declared.answer.Reply.TheVariants as replies
use Rattle.sdr_model.specs.declared.call.Call.TheVariants as calls
use Rattle.step_keyed.proofs.names.find.Goals as goal

pub returns-in_err-kind-clause-comes : goal.returns-in_err-kind-clause-comes
returns-in_err-kind-clause-comes g c =
    let old = g.O.HasHeap.heap c.args.o.now in
    let new = g.O.HasHeap.heap c.find.new.o in
    let page = c.args.page.now in
    let fact : ComesInEach (calls.Find c.args.name.now) old new page page (Err c.in_err-kind.field-0.0) =
    comes_stopped (calls.Find c.args.name.now) old new page c.in_err-kind.field-0.0 (FindStops c.args.name.now old)
    c.in_err-kind.ensures.refused
    (λ w refusal stands served m. find_refused old new w c.requires.unmoved stands served c.args.name.now page refusal
    c.in_err-kind.ensures.looks.same m) in
    search rules

pub returns-clause-comes : goal.returns-clause-comes
returns-clause-comes g c =
    let old = g.O.HasHeap.heap c.args.o.now in
    let new = g.O.HasHeap.heap c.find.new.o in
    comes_answered (calls.Find c.args.name.now) old new c.args.page.now c.clear.new.self
    (replies.Pair c.in_ok-kind.kind c.in_ok-kind.second) c.clear.ensures
    (λ w stands served. find_answered old new w c.requires.unmoved stands served c.args.name.now
    (c.in_ok-kind.kind, c.in_ok-kind.second) c.in_ok-kind.ensures.looks.same c.in_ok-kind.ensures.found)
