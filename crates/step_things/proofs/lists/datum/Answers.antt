use Rattle.std.proofs.Common.{rules, Err}
use Rattle.step_things.proofs.CallLemmas.{comes_answered, comes_stopped}
use Rattle.step_things.proofs.ListLemmas.{IsSmall}
use Rattle.step_things.proofs.ListReading.{datum_answered, element_missed}
use Rattle.step_things.specs.Answering.{ComesInEach}
use Rattle.sdr_base.specs.Objects.{Misses}
use Rattle.sdr_base.specs.declared.kind.Kind.TheVariants as kinds
use Rattle.sdr_model.specs.declared.answer.Reply.TheVariants as replies
use Rattle.sdr_model.specs.declared.call.Call.TheVariants as calls
use Rattle.step_things.proofs.lists.datum.Goals as goal

pub returns-in_err-value-clause-comes : goal.returns-in_err-value-clause-comes
returns-in_err-value-clause-comes g c =
    let old = g.O.HasHeap.heap c.args.o.now in
    let new = g.O.HasHeap.heap c.datum.new.o in
    let small : IsSmall old = record
    { few = g.met.O.Objects.few c.args.o.now c.requires.kept; small = g.met.O.Objects.small c.args.o.now c.requires.kept } in
    let page = c.args.page.now in
    let fact : ComesInEach (calls.Datum c.args.element) old new page page (Err c.in_err-value.field-0.0) =
    comes_stopped (calls.Datum c.args.element) old new page c.in_err-value.field-0.0
    (Misses (old.blocks c.args.element) c.args.element kinds.Element) c.in_err-value.ensures.refused
    (λ w refusal stands served m. element_missed old new w c.requires.unmoved stands served small (calls.Datum c.args.element)
    c.args.element _ page refusal c.in_err-value.ensures.looks.same (λ o h. h) m) in
    search rules

pub returns-clause-comes : goal.returns-clause-comes
returns-clause-comes g c =
    let old = g.O.HasHeap.heap c.args.o.now in
    let new = g.O.HasHeap.heap c.datum.new.o in
    let small : IsSmall old = record
    { few = g.met.O.Objects.few c.args.o.now c.requires.kept; small = g.met.O.Objects.small c.args.o.now c.requires.kept } in
    comes_answered (calls.Datum c.args.element) old new c.args.page.now c.clear.new.self (replies.Value c.in_ok-value.value)
    c.clear.ensures
    (λ w stands served. datum_answered old new w c.requires.unmoved stands served small c.args.element c.in_ok-value.value
    c.in_ok-value.ensures.looks.same c.in_ok-value.ensures.given)
