-- A header, put in front or refused.
use Rattle.std.proofs.Common.{rules, Err, refl}
use Rattle.step_things.specs.Answering.{ComesInEach}
use Rattle.step_things.proofs.ListLemmas.{IsSmall}
use Rattle.step_things.proofs.CallLemmas.{comes_answered, comes_stopped}
use Rattle.sdr_model.specs.ObjectSteps.{with_header}
use Rattle.sdr_model.specs.declared.answer.Reply.TheVariants as replies
use Rattle.sdr_model.specs.declared.call.Call.TheVariants as calls
use Rattle.step_zco.proofs.CapsuleCalls.{adds_header, capsule_added, capsule_refused}
use Rattle.step_zco.proofs.TextLemmas.{are_bytes}
use Rattle.zco_obj.specs.Capsules as rows
use Rattle.zco_obj.specs.Capsules.{CapsuleStops}
use Rattle.step_zco.proofs.capsules.prepend_header.Goals as goal

pub returns-in_err-prepend_header-clause-comes : goal.returns-in_err-prepend_header-clause-comes
returns-in_err-prepend_header-clause-comes g c =
    let old = g.O.HasHeap.heap c.args.o.now in
    let new = g.O.HasHeap.heap c.prepend_header.new.o in
    let page = c.args.page.now in
    let call = calls.PrependHeader c.args.object c.args.ticket c.args.text.now in
    let small : IsSmall old = record {
      few = g.met.O.Objects.few c.args.o.now c.requires.kept;
      small = g.met.O.Objects.small c.args.o.now c.requires.kept;
    } in
    let fact : ComesInEach call old new page page (Err c.in_err-prepend_header.field-0.0) =
    comes_stopped call old new page c.in_err-prepend_header.field-0.0
    (CapsuleStops c.args.object c.args.ticket c.args.text.now old new) c.in_err-prepend_header.ensures.refused
    (λ w refusal stands served m.
    capsule_refused old new w c.requires.unmoved stands served with_header rows.with_header adds_header call refl c.args.object c.args.ticket
    c.args.text.now (λ o h. h) page refusal small m) in
    search rules

pub returns-in_err-prepend_header-clause-bytes : goal.returns-in_err-prepend_header-clause-bytes
returns-in_err-prepend_header-clause-bytes g c = are_bytes c.args.text.now c.type_inv.text

pub returns-clause-comes : goal.returns-clause-comes
returns-clause-comes g c =
    let old = g.O.HasHeap.heap c.args.o.now in
    let new = g.O.HasHeap.heap c.prepend_header.new.o in
    let call = calls.PrependHeader c.args.object c.args.ticket c.args.text.now in
    let small : IsSmall old = record {
      few = g.met.O.Objects.few c.args.o.now c.requires.kept;
      small = g.met.O.Objects.small c.args.o.now c.requires.kept;
    } in
    comes_answered call old new c.args.page.now c.clear.new.self replies.Done c.clear.ensures
    (λ w stands served.
    capsule_added old new w c.requires.unmoved stands served with_header rows.with_header adds_header call refl c.args.object c.args.ticket
    c.args.text.now (λ o h. h) small c.in_ok-prepend_header.ensures.added)

pub returns-clause-bytes : goal.returns-clause-bytes
returns-clause-bytes g c = are_bytes c.args.text.now c.type_inv.text
