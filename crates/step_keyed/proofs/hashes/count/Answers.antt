use Rattle.std.proofs.Common.{rules, Err}
use Rattle.step_things.proofs.CallLemmas.{comes_answered, comes_stopped}
use Rattle.step_keyed.proofs.HashReading.{counted, hash_missed}
use Rattle.step_things.specs.Answering.{ComesInEach}
use Rattle.sdr_base.specs.Objects.{Misses}
use Rattle.sdr_base.specs.declared.kind.Kind.TheVariants as kinds
use Rattle.sdr_model.specs.declared.answer.Reply.TheVariants as replies
use Rattle.sdr_model.specs.declared.call.Call.TheVariants as calls
use Rattle.step_keyed.proofs.hashes.count.Goals as goal

pub returns-in_err-value-clause-comes : goal.returns-in_err-value-clause-comes
returns-in_err-value-clause-comes g c =
    let old = g.O.HasHeap.heap c.args.o.now in
    let new = g.O.HasHeap.heap c.count.new.o in
    let page = c.args.page.now in
    let fact : ComesInEach (calls.HashCount c.args.hash) old new page page (Err c.in_err-value.field-0.0) =
    comes_stopped (calls.HashCount c.args.hash) old new page c.in_err-value.field-0.0
    (Misses (old.blocks c.args.hash) c.args.hash kinds.Hash) c.in_err-value.ensures.refused
    (λ w refusal stands served m. hash_missed old new w c.requires.unmoved stands served (calls.HashCount c.args.hash) c.args.hash _ page refusal c.in_err-value.ensures.looks.same (λ o h. h) m) in
    search rules

pub returns-clause-comes : goal.returns-clause-comes
returns-clause-comes g c =
    let old = g.O.HasHeap.heap c.args.o.now in
    let new = g.O.HasHeap.heap c.count.new.o in
    comes_answered (calls.HashCount c.args.hash) old new c.args.page.now c.clear.new.self
    (replies.Value c.in_ok-value.value) c.clear.ensures
    (λ w stands served. counted old new w c.requires.unmoved stands served c.args.hash c.in_ok-value.value c.in_ok-value.ensures.looks.same c.in_ok-value.ensures.given)
