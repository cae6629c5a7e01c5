use Rattle.std.proofs.Common.{refl, rules, length, Err}
use Rattle.std.proofs.lemmas.List.{length-map}
use Rattle.step_things.proofs.CallLemmas.{comes_answered, comes_stopped}
use Rattle.step_things.proofs.ListChanging.{insert_refused_in, inserted_in}
use Rattle.step_things.proofs.ListLemmas.{IsSmall}
use Rattle.step_things.specs.Answering.{ComesInEach}
use Rattle.sdr_stands.specs.Rows.{element_row}
use Rattle.sdr_list.specs.Calls.{InsertStops}
use Rattle.sdr_base.specs.declared.kind.Kind.TheVariants as kinds
use Rattle.sdr_model.specs.declared.answer.Reply.TheVariants as replies
use Rattle.sdr_model.specs.declared.call.Call.TheVariants as calls
use Rattle.step_things.proofs.lists.insert_last.Goals as goal

pub returns-in_err-addr-clause-comes : goal.returns-in_err-addr-clause-comes
returns-in_err-addr-clause-comes g c =
    let old = g.O.HasHeap.heap c.args.o.now in
    let new = g.O.HasHeap.heap c.insert_last.new.o in
    let small : IsSmall old = record
    { few = g.met.O.Objects.few c.args.o.now c.requires.kept; small = g.met.O.Objects.small c.args.o.now c.requires.kept } in
    let page = c.args.page.now in
    let fact : ComesInEach (calls.InsertLast c.args.list c.args.datum) old new page page (Err c.in_err-addr.field-0.0) =
    comes_stopped (calls.InsertLast c.args.list c.args.datum) old new page c.in_err-addr.field-0.0
    (InsertStops kinds.List c.args.list old new) c.in_err-addr.ensures.refused
    (λ w refusal stands served m. insert_refused_in old new w c.requires.unmoved stands served small
    (calls.InsertLast c.args.list c.args.datum) c.args.list (λ row. length row.elements) c.args.datum page refusal (λ o h. h)
    refl m) in
    search rules

pub returns-clause-comes : goal.returns-clause-comes
returns-clause-comes g c =
    let old = g.O.HasHeap.heap c.args.o.now in
    let new = g.O.HasHeap.heap c.insert_last.new.o in
    let small : IsSmall old = record
    { few = g.met.O.Objects.few c.args.o.now c.requires.kept; small = g.met.O.Objects.small c.args.o.now c.requires.kept } in
    comes_answered (calls.InsertLast c.args.list c.args.datum) old new c.args.page.now c.clear.new.self
    (replies.At c.in_ok-addr.addr) c.clear.ensures
    (λ w stands served. inserted_in old new w c.requires.unmoved stands served small
    (calls.InsertLast c.args.list c.args.datum) c.args.list (λ row. length row.elements) (λ row. length row.elements)
    c.args.datum c.in_ok-addr.addr (λ o h. h) c.in_ok-addr.ensures.inserted (λ row. length-map row.elements element_row))
