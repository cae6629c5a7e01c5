use Rattle.std.proofs.Common.{rules, Err}
use Rattle.step_things.proofs.CallLemmas.{comes_answered, comes_stopped}
use Rattle.step_things.proofs.ListChanging.{datum_refused, datum_set}
use Rattle.step_things.proofs.ListLemmas.{IsSmall}
use Rattle.step_things.specs.Answering.{ComesInEach}
use Rattle.sdr_list.specs.Calls.{ChangeStops}
use Rattle.sdr_base.specs.declared.kind.Kind.TheVariants as kinds
use Rattle.sdr_model.specs.declared.answer.Reply.TheVariants as replies
use Rattle.sdr_model.specs.declared.call.Call.TheVariants as calls
use Rattle.step_things.proofs.lists.set_datum.Goals as goal

pub returns-in_err-set_datum-clause-comes : goal.returns-in_err-set_datum-clause-comes
returns-in_err-set_datum-clause-comes g c =
    let old = g.O.HasHeap.heap c.args.o.now in
    let new = g.O.HasHeap.heap c.set_datum.new.o in
    let small : IsSmall old = record
    { few = g.met.O.Objects.few c.args.o.now c.requires.kept; small = g.met.O.Objects.small c.args.o.now c.requires.kept } in
    let page = c.args.page.now in
    let fact : ComesInEach (calls.SetDatum c.args.element c.args.datum) old new page page
    (Err c.in_err-set_datum.field-0.0) =
    comes_stopped (calls.SetDatum c.args.element c.args.datum) old new page c.in_err-set_datum.field-0.0
    (ChangeStops kinds.Element c.args.element old new) c.in_err-set_datum.ensures.refused
    (λ w refusal stands served m. datum_refused old new w c.requires.unmoved stands served small c.args.element c.args.datum
    page refusal m) in
    search rules

pub returns-clause-comes : goal.returns-clause-comes
returns-clause-comes g c =
    let old = g.O.HasHeap.heap c.args.o.now in
    let new = g.O.HasHeap.heap c.set_datum.new.o in
    let small : IsSmall old = record
    { few = g.met.O.Objects.few c.args.o.now c.requires.kept; small = g.met.O.Objects.small c.args.o.now c.requires.kept } in
    comes_answered (calls.SetDatum c.args.element c.args.datum) old new c.args.page.now c.clear.new.self (replies.Done)
    c.clear.ensures
    (λ w stands served. datum_set old new w c.requires.unmoved stands served small c.args.element c.args.datum
    c.in_ok-set_datum.ensures.set)
