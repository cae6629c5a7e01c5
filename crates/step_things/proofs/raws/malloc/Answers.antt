use Rattle.std.proofs.Common.{rules, Err}
use Rattle.step_things.proofs.CallLemmas.{comes_answered, comes_stopped}
use Rattle.step_things.proofs.MallocLemmas.{malloc_answered, malloc_refused}
use Rattle.step_things.specs.Answering.{ComesInEach}
use Rattle.sdr_heap.specs.Raw.{MallocStops}
use Rattle.sdr_model.specs.declared.answer.Reply.TheVariants as replies
use Rattle.sdr_model.specs.declared.call.Call.TheVariants as calls
use Rattle.step_things.proofs.raws.malloc.Goals as goal

pub returns-in_err-addr-clause-comes : goal.returns-in_err-addr-clause-comes
returns-in_err-addr-clause-comes g c =
    let old = g.O.HasHeap.heap c.args.o.now in
    let new = g.O.HasHeap.heap c.malloc.new.o in
    let page = c.args.page.now in
    let fact : ComesInEach (calls.Malloc c.args.bytes) old new page page (Err c.in_err-addr.field-0.0) =
    comes_stopped (calls.Malloc c.args.bytes) old new page c.in_err-addr.field-0.0 (MallocStops c.args.bytes old new)
    c.in_err-addr.ensures.refused
    (λ w refusal stands served m. malloc_refused c.args.bytes old new w page refusal c.requires.unmoved m) in
    search rules

pub returns-clause-comes : goal.returns-clause-comes
returns-clause-comes g c =
    let old = g.O.HasHeap.heap c.args.o.now in
    let new = g.O.HasHeap.heap c.malloc.new.o in
    comes_answered (calls.Malloc c.args.bytes) old new c.args.page.now c.clear.new.self (replies.At c.in_ok-addr.addr)
    c.clear.ensures
    (λ w stands served. malloc_answered c.args.bytes c.in_ok-addr.addr old new w c.requires.unmoved c.in_ok-addr.ensures.made
    stands served.whole)
