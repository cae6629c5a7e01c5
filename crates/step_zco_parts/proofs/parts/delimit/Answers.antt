-- The part of an object, set or refused.
use Rattle.std.proofs.Common.{rules, Err}
use Rattle.step_things.specs.Answering.{ComesInEach}
use Rattle.step_things.proofs.ListLemmas.{IsSmall}
use Rattle.step_things.proofs.CallLemmas.{comes_answered, comes_stopped}
use Rattle.sdr_model.specs.declared.answer.Reply.TheVariants as replies
use Rattle.sdr_model.specs.declared.call.Call.TheVariants as calls
use Rattle.zco_part.specs.Delimiting.{DelimitStops}
use Rattle.step_zco_parts.proofs.DelimitCalls.{delimited, undelimited}
use Rattle.step_zco_parts.proofs.parts.delimit.Goals as goal

pub returns-in_err-delimit-clause-comes : goal.returns-in_err-delimit-clause-comes
returns-in_err-delimit-clause-comes g c =
    let old = g.O.HasHeap.heap c.args.o.now in
    let new = g.O.HasHeap.heap c.delimit.new.o in
    let page = c.args.page.now in
    let call = calls.Delimit c.args.object c.args.offset c.args.bytes in
    let small : IsSmall old = record {
      few = g.met.O.Objects.few c.args.o.now c.requires.kept;
      small = g.met.O.Objects.small c.args.o.now c.requires.kept;
    } in
    let fact : ComesInEach call old new page page (Err c.in_err-delimit.field-0.0) =
    comes_stopped call old new page c.in_err-delimit.field-0.0 (DelimitStops c.args.object c.args.offset c.args.bytes old new)
    c.in_err-delimit.ensures.refused
    (λ w refusal stands served m.
    undelimited old new w c.requires.unmoved stands served small c.args.object c.args.offset c.args.bytes page refusal m) in
    search rules

pub returns-clause-comes : goal.returns-clause-comes
returns-clause-comes g c =
    let old = g.O.HasHeap.heap c.args.o.now in
    let new = g.O.HasHeap.heap c.delimit.new.o in
    let call = calls.Delimit c.args.object c.args.offset c.args.bytes in
    let small : IsSmall old = record {
      few = g.met.O.Objects.few c.args.o.now c.requires.kept;
      small = g.met.O.Objects.small c.args.o.now c.requires.kept;
    } in
    comes_answered call old new c.args.page.now c.clear.new.self replies.Done c.clear.ensures
    (λ w stands served.
    delimited old new w c.requires.unmoved stands served small c.args.object c.args.offset c.args.bytes c.in_ok-delimit.ensures.delimited)
