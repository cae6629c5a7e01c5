use Rattle.std.proofs.Common.{rules, Err}
use Rattle.step_things.proofs.CallLemmas.{comes_answered, comes_stopped}
use Rattle.step_keyed.proofs.HashReading.{retrieved, unretrieved}
use Rattle.step_things.specs.Answering.{ComesInEach}
use Rattle.sdr_hash.specs.Calls.{FindStops}
use Rattle.sdr_model.specs.declared.answer.Reply.TheVariants as replies
use Rattle.sdr_model.specs.declared.call.Call.TheVariants as calls
use Rattle.step_keyed.proofs.hashes.retrieve.Goals as goal

pub returns-in_err-value-clause-comes : goal.returns-in_err-value-clause-comes
returns-in_err-value-clause-comes g c =
    let old = g.O.HasHeap.heap c.args.o.now in
    let new = g.O.HasHeap.heap c.retrieve.new.o in
    let page = c.args.page.now in
    let fact : ComesInEach (calls.HashRetrieve c.args.hash c.args.key.now) old new page page
    (Err c.in_err-value.field-0.0) =
    comes_stopped (calls.HashRetrieve c.args.hash c.args.key.now) old new page c.in_err-value.field-0.0
    (FindStops old.blocks c.args.hash c.args.key.now) c.in_err-value.ensures.refused
    (λ w refusal stands served m. unretrieved old new w c.requires.unmoved stands served c.args.hash c.args.key.now page refusal c.in_err-value.ensures.looks.same m) in
    search rules

pub returns-clause-comes : goal.returns-clause-comes
returns-clause-comes g c =
    let old = g.O.HasHeap.heap c.args.o.now in
    let new = g.O.HasHeap.heap c.retrieve.new.o in
    comes_answered (calls.HashRetrieve c.args.hash c.args.key.now) old new c.args.page.now c.clear.new.self
    (replies.Value c.in_ok-value.value) c.clear.ensures
    (λ w stands served. retrieved old new w c.requires.unmoved stands served c.args.hash c.args.key.now c.in_ok-value.value c.in_ok-value.ensures.looks.same c.in_ok-value.ensures.found)
