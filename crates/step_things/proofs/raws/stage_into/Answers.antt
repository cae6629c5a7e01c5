use Rattle.std.proofs.Common.{rules, subst, Err, ℕ}
use Rattle.step_things.proofs.CallLemmas.{comes_showing, comes_stopped}
use Rattle.step_things.proofs.ReadingLemmas.{stage_answered, stage_refused}
use Rattle.step_things.specs.Answering.{ComesInEach}
use Rattle.sdr_heap.specs.Raw.{ReadStops, ReadsRaw}
use Rattle.sdr_model.specs.declared.answer.Reply.TheVariants as replies
use Rattle.sdr_model.specs.declared.call.Call.TheVariants as calls
use Rattle.step_things.proofs.raws.stage_into.Goals as goal

pub returns-in_err-stage-clause-comes : goal.returns-in_err-stage-clause-comes
returns-in_err-stage-clause-comes g c =
    let old = g.O.HasHeap.heap c.args.o.now in
    let new = g.O.HasHeap.heap c.stage.new.o in
    let page = c.args.page.now in
    let fact : ComesInEach (calls.Stage c.args.addr c.args.count) old new page page (Err c.in_err-stage.field-0.0) =
    comes_stopped (calls.Stage c.args.addr c.args.count) old new page c.in_err-stage.field-0.0
    (ReadStops (old.blocks c.args.addr) c.args.addr 0 c.args.count)
    (subst (λ (n : ℕ). ReadStops (old.blocks c.args.addr) c.args.addr 0 n c.in_err-stage.field-0.0) c.requires.count
    c.in_err-stage.ensures.refused)
    (λ w refusal stands served m. stage_refused c.args.addr c.args.count old new w page refusal c.requires.unmoved
    c.in_err-stage.ensures.same stands served.whole m) in
    search rules

pub returns-clause-comes : goal.returns-clause-comes
returns-clause-comes g c =
    let old = g.O.HasHeap.heap c.args.o.now in
    let new = g.O.HasHeap.heap c.stage.new.o in
    comes_showing (calls.Stage c.args.addr c.args.count) old new c.args.page.now c.show.new.self (c.stage.new.into)
    (replies.Bytes c.args.count) c.show.ensures
    (λ w stands served. stage_answered c.args.addr c.args.count c.stage.new.into old new w c.requires.unmoved
    c.in_ok-stage.ensures.marked (subst (λ (n : ℕ). ReadsRaw (old.blocks c.args.addr) 0 n c.stage.new.into) c.requires.count
    c.in_ok-stage.ensures.given) stands served.whole)
