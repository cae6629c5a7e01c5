use Rattle.std.proofs.Common.{arith, rules, take, Err}
use Rattle.std.proofs.lemmas.List.{length-take}
use Rattle.step_things.proofs.CallLemmas.{comes_showing, comes_stopped}
use Rattle.step_keyed.proofs.NameCalls.{entry_answered, entry_refused, entry_short}
use Rattle.step_things.specs.Answering.{ComesInEach}
use Rattle.sdr_cat.specs.Calls.{EntryStops}
use Rattle.sdr_model.specs.declared.answer.Reply.TheVariants as replies
use Rattle.sdr_model.specs.declared.call.Call.TheVariants as calls
use Rattle.step_keyed.proofs.names.entry.Goals as goal

pub slice_bounds-name-end : goal.slice_bounds-name-end
slice_bounds-name-end g c =
    let old = g.O.HasHeap.heap c.args.o.now in
    let few = entry_short old c.args.place _ c.entry.new.into c.requires.names c.in_ok-count.ensures.given in
    omega (arith, few)

pub slice_bounds-show-end : goal.slice_bounds-show-end
slice_bounds-show-end g c =
    let old = g.O.HasHeap.heap c.args.o.now in
    let few = entry_short old c.args.place _ c.entry.new.into c.requires.names c.in_ok-count.ensures.given in
    omega (arith, few, length-take c.in_ok-count.count c.entry.new.into)

pub returns-in_err-count-clause-comes : goal.returns-in_err-count-clause-comes
returns-in_err-count-clause-comes g c =
    let old = g.O.HasHeap.heap c.args.o.now in
    let new = g.O.HasHeap.heap c.entry.new.o in
    let page = c.args.page.now in
    let fact : ComesInEach (calls.Entry c.args.place) old new page page (Err c.in_err-count.field-0.0) =
    comes_stopped (calls.Entry c.args.place) old new page c.in_err-count.field-0.0 (EntryStops c.args.place old)
    c.in_err-count.ensures.refused
    (λ w refusal stands served m. entry_refused old new w c.requires.unmoved stands served c.args.place page refusal
    c.in_err-count.ensures.looks.same m) in
    search rules

pub returns-clause-comes : goal.returns-clause-comes
returns-clause-comes g c =
    let old = g.O.HasHeap.heap c.args.o.now in
    let new = g.O.HasHeap.heap c.entry.new.o in
    comes_showing (calls.Entry c.args.place) old new c.args.page.now c.show.new.self
    (take c.in_ok-count.count c.entry.new.into) (replies.Named c.in_ok-count.count c.in_ok-count.kind c.in_ok-count.addr)
    c.show.ensures
    (λ w stands served. entry_answered old new w c.requires.unmoved stands served c.args.place
    (c.in_ok-count.count, c.in_ok-count.kind, c.in_ok-count.addr) c.entry.new.into c.in_ok-count.ensures.looks.same
    c.in_ok-count.ensures.given)
