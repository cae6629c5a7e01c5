use Rattle.std.proofs.Common.{rules, Err}
use Rattle.step_things.proofs.CallLemmas.{comes_answered, comes_stopped}
use Rattle.step_keyed.proofs.HashChanging.{inserted, uninserted}
use Rattle.step_things.specs.Answering.{ComesInEach}
use Rattle.sdr_hash.specs.Calls.{InsertStops}
use Rattle.sdr_model.specs.declared.answer.Reply.TheVariants as replies
use Rattle.sdr_model.specs.declared.call.Call.TheVariants as calls
use Rattle.step_keyed.proofs.hashes.insert.Goals as goal

pub returns-in_err-insert-clause-comes : goal.returns-in_err-insert-clause-comes
returns-in_err-insert-clause-comes g c =
    let old = g.O.HasHeap.heap c.args.o.now in
    let new = g.O.HasHeap.heap c.insert.new.o in
    let page = c.args.page.now in
    let fact : ComesInEach (calls.HashInsert c.args.hash c.args.key.now c.args.value) old new page page (Err c.in_err-insert.field-0.0) =
    comes_stopped (calls.HashInsert c.args.hash c.args.key.now c.args.value) old new page c.in_err-insert.field-0.0
    (InsertStops c.args.hash c.args.key.now old new) c.in_err-insert.ensures.refused
    (λ w refusal stands served m. uninserted old new w c.requires.unmoved stands served c.args.hash c.args.key.now c.args.value page refusal m) in
    search rules

pub returns-clause-comes : goal.returns-clause-comes
returns-clause-comes g c =
    let old = g.O.HasHeap.heap c.args.o.now in
    let new = g.O.HasHeap.heap c.insert.new.o in
    comes_answered (calls.HashInsert c.args.hash c.args.key.now c.args.value) old new c.args.page.now c.clear.new.self
    (replies.Done) c.clear.ensures
    (λ w stands served. inserted old new w c.requires.unmoved stands served c.args.hash c.args.key.now c.args.value c.in_ok-insert.ensures.inserted)
