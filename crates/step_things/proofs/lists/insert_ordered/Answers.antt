use Rattle.std.proofs.Common.{refl, rules, Err}
use Rattle.step_things.proofs.CallLemmas.{comes_answered, comes_stopped}
use Rattle.step_things.proofs.ListChanging.{insert_refused_in, ordered_answered}
use Rattle.step_things.proofs.ListLemmas.{IsSmall}
use Rattle.step_things.specs.Answering.{ComesInEach}
use Rattle.sdr_list.specs.Calls.{InsertStops}
use Rattle.sdr_model.specs.ListSteps.{compare_keys, ordered_place}
use Rattle.sdr_base.specs.declared.kind.Kind.TheVariants as kinds
use Rattle.sdr_model.specs.declared.answer.Reply.TheVariants as replies
use Rattle.sdr_model.specs.declared.call.Call.TheVariants as calls
use Rattle.step_things.proofs.lists.insert_ordered.Goals as goal

pub returns-in_err-addr-clause-comes : goal.returns-in_err-addr-clause-comes
returns-in_err-addr-clause-comes g c =
    let old = g.O.HasHeap.heap c.args.o.now in
    let new = g.O.HasHeap.heap c.insert_ordered.new.o in
    let small : IsSmall old = record
    { few = g.met.O.Objects.few c.args.o.now c.requires.kept; small = g.met.O.Objects.small c.args.o.now c.requires.kept } in
    let page = c.args.page.now in
    let fact : ComesInEach (calls.InsertOrdered c.args.list c.args.datum c.args.keys) old new page page (Err c.in_err-addr.field-0.0)
    =
    comes_stopped (calls.InsertOrdered c.args.list c.args.datum c.args.keys) old new page c.in_err-addr.field-0.0
    (InsertStops kinds.List c.args.list old new) c.in_err-addr.ensures.refused
    (λ w refusal stands served m. insert_refused_in old new w c.requires.unmoved stands served small
    (calls.InsertOrdered c.args.list c.args.datum c.args.keys) c.args.list
    (ordered_place w (compare_keys c.args.keys) c.args.datum) c.args.datum page refusal (λ o h. h) refl m) in
    search rules

pub returns-clause-comes : goal.returns-clause-comes
returns-clause-comes g c =
    let old = g.O.HasHeap.heap c.args.o.now in
    let new = g.O.HasHeap.heap c.insert_ordered.new.o in
    let small : IsSmall old = record
    { few = g.met.O.Objects.few c.args.o.now c.requires.kept; small = g.met.O.Objects.small c.args.o.now c.requires.kept } in
    comes_answered (calls.InsertOrdered c.args.list c.args.datum c.args.keys) old new c.args.page.now c.clear.new.self
    (replies.At c.in_ok-addr.addr) c.clear.ensures
    (λ w stands served. ordered_answered old new w c.requires.unmoved stands served small c.args.list c.args.datum c.args.keys
    c.collation.result.by c.in_ok-addr.addr c.collation.ensures c.in_ok-addr.ensures.inserted)
