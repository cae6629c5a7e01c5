use Rattle.std.proofs.Common.{rules, Err}
use Rattle.step_things.proofs.CallLemmas.{comes_answered, comes_stopped}
use Rattle.step_keyed.proofs.HashChanging.{revised, unrevised}
use Rattle.step_things.specs.Answering.{ComesInEach}
use Rattle.sdr_hash.specs.Calls.{ChangeStops}
use Rattle.sdr_model.specs.declared.answer.Reply.TheVariants as replies
use Rattle.sdr_model.specs.declared.call.Call.TheVariants as calls
use Rattle.step_keyed.proofs.hashes.revise.Goals as goal

pub returns-in_err-revise-clause-comes : goal.returns-in_err-revise-clause-comes
returns-in_err-revise-clause-comes g c =
    let old = g.O.HasHeap.heap c.args.o.now in
    let new = g.O.HasHeap.heap c.revise.new.o in
    let page = c.args.page.now in
    let fact : ComesInEach (calls.HashRevise c.args.hash c.args.key.now c.args.value) old new page page (Err c.in_err-revise.field-0.0) =
    comes_stopped (calls.HashRevise c.args.hash c.args.key.now c.args.value) old new page c.in_err-revise.field-0.0
    (ChangeStops c.args.hash c.args.key.now old new) c.in_err-revise.ensures.refused
    (λ w refusal stands served m. unrevised old new w c.requires.unmoved stands served c.args.hash c.args.key.now c.args.value page refusal m) in
    search rules

pub returns-clause-comes : goal.returns-clause-comes
returns-clause-comes g c =
    let old = g.O.HasHeap.heap c.args.o.now in
    let new = g.O.HasHeap.heap c.revise.new.o in
    comes_answered (calls.HashRevise c.args.hash c.args.key.now c.args.value) old new c.args.page.now c.clear.new.self
    (replies.Done) c.clear.ensures
    (λ w stands served. revised old new w c.requires.unmoved stands served c.args.hash c.args.key.now c.args.value c.in_ok-revise.ensures.revised)
