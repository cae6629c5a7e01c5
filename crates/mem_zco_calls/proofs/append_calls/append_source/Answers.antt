use Rattle.std.proofs.Common.{◌≡◌, ◌+◌, ◌∙◌, ◌==◌, ◌||◌, Some, ap, false, subst, sym}
use Rattle.std.specs.Prelude.{IfSome, nat_lt}
use Rattle.mem_world.proofs.CallingLemmas.{bounded_object}
use Rattle.sdr_model.proofs.Cases.{some_is}
use Rattle.sdr_model.specs.Charges.{use_charge}
use Rattle.sdr_model.specs.Dry.{StepsDry, addr_after}
use Rattle.sdr_model.specs.RowMoves.{append_moves}
use Rattle.sdr_model.specs.Things.{extent_need}
use Rattle.sdr_model.specs.Zco.{object_at, source_at}
use Rattle.sdr_model.specs.declared.answer.Reply.TheVariants as replies
use Rattle.sdr_model.specs.declared.call.Call.{Call}
use Rattle.sdr_model.specs.declared.call.Call.TheVariants as calls
use Rattle.sdr_model.specs.declared.zco.ZcoObject.{ZcoObject}
use Rattle.sdr_model.specs.declared.zco.ZcoSource.{ZcoSource}
use Rattle.mem_parts.specs.Bounds.{IsBounded}
use Rattle.mem_zco_calls.proofs.ExtentLemmas.{append-row, extent_in}
use Rattle.mem_zco_calls.proofs.ObjectCallLemmas.{component-refused, component-step}
use Rattle.mem_zco_calls.proofs.append_calls.append_source.Goals as goal

pub add_component-requires-clause-bounded : goal.add_component-requires-clause-bounded
add_component-requires-clause-bounded c =
    let w = c.args.world.now.now in
    let k = c.args.asked.now.object in
    let z = some_is (object_at w k) c.requires.object in
    subst (λ o. IfSome o IsBounded) (sym z.1) (bounded_object w c.requires.may k z.0 z.1)

pub returns-in-Err : goal.returns-in-Err
returns-in-Err c =
    let w = c.args.world.now.now in
    let a = c.args.asked.now in
    let s : ZcoSource = c.in-Some.source.now in
    let z : (z : ZcoObject) × (object_at w a.object ≡ Some z) = (c.in-Some-object.object.now, sym c.in-Some-object.ensures.value) in
    let inside : (a.bytes == 0 || nat_lt s.length (a.offset + a.bytes)) ≡ false = sym c.is_outside.ensures ∙ c.if-is_outside.false in
    let extent = extent_in w a.object a.ticket a.named a.offset a.bytes in
    record {
      step = component-refused w c.add_component.new.world.now (calls.AppendExtent a.object a.ticket a.named a.offset a.bytes) a.object
          a.ticket extent_need (use_charge w z.0.account a.named s) c.use_charge-charge.result z.0 extent c.extent-extent.result
          (append-row w a.object a.ticket a.named a.offset a.bytes z.0 s z.1 (sym c.in-Some.ensures) c.if-source.false inside)
          c.use_charge-charge.ensures
          z.1 (c.extent-extent.ensures ∙ ap extent c.next.ensures.value) _
          c.in-Err.refusal c.in-Err.is c.in_ok-add_component.ensures.refused c.in_ok-add_component.ensures.same;
      begun = c.add_component.ensures.keeps.begun;
      same = tt;
    }

pub returns-in-Ok : goal.returns-in-Ok
returns-in-Ok c =
    let w = c.args.world.now.now in
    let a = c.args.asked.now in
    let s : ZcoSource = c.in-Some.source.now in
    let z : (z : ZcoObject) × (object_at w a.object ≡ Some z) = (c.in-Some-object.object.now, sym c.in-Some-object.ensures.value) in
    let inside : (a.bytes == 0 || nat_lt s.length (a.offset + a.bytes)) ≡ false = sym c.is_outside.ensures ∙ c.if-is_outside.false in
    let extent = extent_in w a.object a.ticket a.named a.offset a.bytes in
    let source : source_at w a.named ≡ Some s = sym c.in-Some.ensures in
    let call : Call = calls.AppendExtent a.object a.ticket a.named a.offset a.bytes in
    record {
      step = subst (λ moves. StepsDry w call moves c.add_component.new.world.now replies.Done)
          (sym (ap (λ t. append_moves t (addr_after w.taken)) source))
          (component-step w c.add_component.new.world.now call a.object a.ticket extent_need (use_charge w z.0.account a.named s)
          c.use_charge-charge.result z.0 extent c.extent-extent.result
          (append-row w a.object a.ticket a.named a.offset a.bytes z.0 s z.1 source c.if-source.false inside)
          c.use_charge-charge.ensures
          z.1 (c.extent-extent.ensures ∙ ap extent c.next.ensures.value) _
          c.in-Ok.field-0 c.in-Ok.is c.in_ok-add_component.ensures.allowed c.in_ok-add_component.ensures.added);
      begun = c.add_component.ensures.keeps.begun;
      same = tt;
    }
