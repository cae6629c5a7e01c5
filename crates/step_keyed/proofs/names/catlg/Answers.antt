use Rattle.std.proofs.Common.{rules, Err}
use Rattle.step_things.proofs.CallLemmas.{comes_answered, comes_stopped}
use Rattle.step_keyed.proofs.NameCalls.{catlg_answered, catlg_refused}
use Rattle.step_things.specs.Answering.{ComesInEach}
use Rattle.sdr_cat.specs.Changes.{CatlgStops}
use Rattle.sdr_model.specs.declared.answer.Reply.TheVariants as replies
use Rattle.sdr_model.specs.declared.call.Call.TheVariants as calls
use Rattle.step_keyed.proofs.names.catlg.Goals as goal

pub returns-in_err-catlg-clause-comes : goal.returns-in_err-catlg-clause-comes
returns-in_err-catlg-clause-comes g c =
    let old = g.O.HasHeap.heap c.args.o.now in
    let new = g.O.HasHeap.heap c.catlg.new.o in
    let page = c.args.page.now in
    let fact : ComesInEach (calls.Catlg c.args.name.now c.args.kind c.args.object) old new page page (Err c.in_err-catlg.field-0.0) =
    comes_stopped (calls.Catlg c.args.name.now c.args.kind c.args.object) old new page c.in_err-catlg.field-0.0
    (CatlgStops c.args.name.now old new) c.in_err-catlg.ensures.refused
    (λ w refusal stands served m. catlg_refused old new w c.requires.unmoved stands served c.args.name.now c.args.kind
    c.args.object page refusal m) in
    search rules

pub returns-clause-comes : goal.returns-clause-comes
returns-clause-comes g c =
    let old = g.O.HasHeap.heap c.args.o.now in
    let new = g.O.HasHeap.heap c.catlg.new.o in
    comes_answered (calls.Catlg c.args.name.now c.args.kind c.args.object) old new c.args.page.now c.clear.new.self
    (replies.Done) c.clear.ensures
    (λ w stands served. catlg_answered old new w c.requires.unmoved stands served c.args.name.now c.args.kind c.args.object
    c.in_ok-catlg.ensures.catalogued)
