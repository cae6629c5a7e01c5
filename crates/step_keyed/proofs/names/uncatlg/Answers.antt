use Rattle.std.proofs.Common.{rules, Err}
use Rattle.step_things.proofs.CallLemmas.{comes_answered, comes_stopped}
use Rattle.step_keyed.proofs.NameCalls.{uncatlg_answered, uncatlg_refused}
use Rattle.step_things.specs.Answering.{ComesInEach}
use Rattle.sdr_cat.specs.Changes.{UncatlgStops}
use Rattle.sdr_model.specs.declared.answer.Reply.TheVariants as replies
use Rattle.sdr_model.specs.declared.call.Call.TheVariants as calls
use Rattle.step_keyed.proofs.names.uncatlg.Goals as goal

pub returns-in_err-uncatlg-clause-comes : goal.returns-in_err-uncatlg-clause-comes
returns-in_err-uncatlg-clause-comes g c =
    let old = g.O.HasHeap.heap c.args.o.now in
    let new = g.O.HasHeap.heap c.uncatlg.new.o in
    let page = c.args.page.now in
    let fact : ComesInEach (calls.Uncatlg c.args.name.now) old new page page (Err c.in_err-uncatlg.field-0.0) =
    comes_stopped (calls.Uncatlg c.args.name.now) old new page c.in_err-uncatlg.field-0.0
    (UncatlgStops c.args.name.now old new) c.in_err-uncatlg.ensures.refused
    (λ w refusal stands served m. uncatlg_refused old new w c.requires.unmoved stands served c.args.name.now page refusal m) in
    search rules

pub returns-clause-comes : goal.returns-clause-comes
returns-clause-comes g c =
    let old = g.O.HasHeap.heap c.args.o.now in
    let new = g.O.HasHeap.heap c.uncatlg.new.o in
    comes_answered (calls.Uncatlg c.args.name.now) old new c.args.page.now c.clear.new.self (replies.Done) c.clear.ensures
    (λ w stands served. uncatlg_answered old new w c.requires.unmoved stands served c.args.name.now
    c.in_ok-uncatlg.ensures.uncatalogued)
