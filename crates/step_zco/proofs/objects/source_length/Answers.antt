-- The length of an object's part, told or refused.
use Rattle.std.proofs.Common.{rules, Err}
use Rattle.step_things.specs.Answering.{ComesInEach}
use Rattle.step_things.proofs.ListLemmas.{IsSmall}
use Rattle.step_things.proofs.CallLemmas.{comes_answered, comes_stopped}
use Rattle.step_zco.proofs.ReadingCalls.{part_answered, part_refused}
use Rattle.sdr_base.specs.Objects.{Misses}
use Rattle.sdr_base.specs.declared.kind.Kind.TheVariants as kinds
use Rattle.sdr_model.specs.declared.answer.Reply.TheVariants as replies
use Rattle.sdr_model.specs.declared.call.Call.TheVariants as calls
use Rattle.step_zco.proofs.objects.source_length.Goals as goal

pub returns-in_err-value-clause-comes : goal.returns-in_err-value-clause-comes
returns-in_err-value-clause-comes g c =
    let old = g.O.HasHeap.heap c.args.o.now in
    let new = g.O.HasHeap.heap c.source_length.new.o in
    let page = c.args.page.now in
    let call = calls.SourceLength c.args.object in
    let fact : ComesInEach call old new page page (Err c.in_err-value.field-0.0) =
    comes_stopped call old new page c.in_err-value.field-0.0
    (Misses (old.blocks c.args.object) c.args.object kinds.Object) c.in_err-value.ensures.refused
    (λ w refusal stands served m.
    part_refused old new w c.requires.unmoved stands served c.in_err-value.ensures.looks.same c.args.object page refusal m) in
    search rules

pub returns-clause-comes : goal.returns-clause-comes
returns-clause-comes g c =
    let old = g.O.HasHeap.heap c.args.o.now in
    let new = g.O.HasHeap.heap c.source_length.new.o in
    let small : IsSmall old = record {
      few = g.met.O.Objects.few c.args.o.now c.requires.kept;
      small = g.met.O.Objects.small c.args.o.now c.requires.kept;
    } in
    comes_answered (calls.SourceLength c.args.object) old new c.args.page.now c.clear.new.self (replies.Value c.in_ok-value.value)
    c.clear.ensures
    (λ w stands served. part_answered old new w c.requires.unmoved stands served c.in_ok-value.ensures.looks.same c.args.object
    c.in_ok-value.value small c.in_ok-value.ensures.told)
