-- What goes is given back, and what a source names stays.
use Rattle.std.proofs.Common.{rules, Err}
use Rattle.step_things.proofs.CallLemmas.{comes_answered, comes_stopped}
use Rattle.step_things.proofs.ListLemmas.{IsSmall}
use Rattle.step_things.specs.Answering.{ComesInEach}
use Rattle.sdr_heap.specs.Raw.{FreeStops}
use Rattle.sdr_model.specs.declared.answer.Reply.TheVariants as replies
use Rattle.sdr_model.specs.declared.call.Call.TheVariants as calls
use Rattle.step_keyed.proofs.FreeLemmas.{free_answered, free_refused}
use Rattle.step_keyed.proofs.freeing.free.Goals as goal

pub returns-in_err-free-clause-comes : goal.returns-in_err-free-clause-comes
returns-in_err-free-clause-comes g c =
    let old = g.O.HasHeap.heap c.args.o.now in
    let new = g.O.HasHeap.heap c.free.new.o in
    let page = c.args.page.now in
    let small : IsSmall old = record {
      few = g.met.O.Objects.few c.args.o.now c.requires.kept;
      small = g.met.O.Objects.small c.args.o.now c.requires.kept;
    } in
    let fact : ComesInEach (calls.Free c.args.addr) old new page page (Err c.in_err-free.field-0.0) =
    comes_stopped (calls.Free c.args.addr) old new page c.in_err-free.field-0.0
    (FreeStops c.args.addr old new) c.in_err-free.ensures.refused
    (λ w refusal stands served m. free_refused c.args.addr old new w page refusal c.requires.unmoved small stands served m) in
    search rules

pub returns-clause-comes : goal.returns-clause-comes
returns-clause-comes g c =
    let old = g.O.HasHeap.heap c.args.o.now in
    let new = g.O.HasHeap.heap c.free.new.o in
    comes_answered (calls.Free c.args.addr) old new c.args.page.now c.clear.new.self replies.Done c.clear.ensures
    (λ w stands served. free_answered c.args.addr old new w c.requires.unmoved c.in_ok-free.ensures.given stands served)
