use Rattle.std.proofs.Common.{rules, length, Err}
use Rattle.step_things.proofs.CallLemmas.{comes_answered, comes_stopped}
use Rattle.step_things.proofs.WriteLemmas.{write_answered, write_refused}
use Rattle.step_things.specs.Answering.{ComesInEach}
use Rattle.sdr_heap.specs.Raw.{WriteStops}
use Rattle.sdr_model.specs.declared.answer.Reply.TheVariants as replies
use Rattle.sdr_model.specs.declared.call.Call.TheVariants as calls
use Rattle.step_things.proofs.raws.write.Goals as goal

pub returns-in_err-write-clause-comes : goal.returns-in_err-write-clause-comes
returns-in_err-write-clause-comes g c =
    let old = g.O.HasHeap.heap c.args.o.now in
    let new = g.O.HasHeap.heap c.write.new.o in
    let page = c.args.page.now in
    let fact : ComesInEach (calls.Write c.args.addr c.args.place c.args.from.now) old new page page (Err c.in_err-write.field-0.0) =
    comes_stopped (calls.Write c.args.addr c.args.place c.args.from.now) old new page c.in_err-write.field-0.0
    (WriteStops (old.blocks c.args.addr) c.args.addr c.args.place (length c.args.from.now) old new)
    c.in_err-write.ensures.refused
    (λ w refusal stands served m. write_refused c.args.addr c.args.place c.args.from.now old new w page refusal
    c.requires.unmoved stands served.whole m) in
    search rules

pub returns-clause-comes : goal.returns-clause-comes
returns-clause-comes g c =
    let old = g.O.HasHeap.heap c.args.o.now in
    let new = g.O.HasHeap.heap c.write.new.o in
    comes_answered (calls.Write c.args.addr c.args.place c.args.from.now) old new c.args.page.now c.clear.new.self
    (replies.Done) c.clear.ensures
    (λ w stands served. write_answered c.args.addr c.args.place c.args.from.now old new w c.requires.unmoved
    c.in_ok-write.ensures.written stands served.whole)
