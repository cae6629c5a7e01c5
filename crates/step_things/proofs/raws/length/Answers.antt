use Rattle.std.proofs.Common.{rules, Err}
use Rattle.step_things.proofs.CallLemmas.{comes_answered, comes_stopped}
use Rattle.step_things.proofs.ReadingLemmas.{length_answered, length_refused}
use Rattle.step_things.specs.Answering.{ComesInEach}
use Rattle.sdr_heap.specs.Raw.{IsMissing}
use Rattle.sdr_model.specs.declared.answer.Reply.TheVariants as replies
use Rattle.sdr_model.specs.declared.call.Call.TheVariants as calls
use Rattle.step_things.proofs.raws.length.Goals as goal

pub returns-in_err-value-clause-comes : goal.returns-in_err-value-clause-comes
returns-in_err-value-clause-comes g c =
    let old = g.O.HasHeap.heap c.args.o.now in
    let new = g.O.HasHeap.heap c.length.new.o in
    let page = c.args.page.now in
    let fact : ComesInEach (calls.Length c.args.addr) old new page page (Err c.in_err-value.field-0.0) =
    comes_stopped (calls.Length c.args.addr) old new page c.in_err-value.field-0.0
    (IsMissing (old.blocks c.args.addr) c.args.addr) c.in_err-value.ensures.refused
    (λ w refusal stands served m. length_refused c.args.addr old new w page refusal c.requires.unmoved
    c.in_err-value.ensures.looks.same stands served.whole m) in
    search rules

pub returns-clause-comes : goal.returns-clause-comes
returns-clause-comes g c =
    let old = g.O.HasHeap.heap c.args.o.now in
    let new = g.O.HasHeap.heap c.length.new.o in
    comes_answered (calls.Length c.args.addr) old new c.args.page.now c.clear.new.self (replies.Value c.in_ok-value.value)
    c.clear.ensures
    (λ w stands served. length_answered c.args.addr c.in_ok-value.value old new w c.requires.unmoved
    c.in_ok-value.ensures.looks.same c.in_ok-value.ensures.given stands served.whole)
