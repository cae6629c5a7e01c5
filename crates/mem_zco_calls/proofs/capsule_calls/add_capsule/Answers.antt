use Rattle.std.proofs.Common.{◌≡◌, ◌∙◌, ap, ap₂, sym, subst, arith, is_some, length, not}
use Rattle.sdr_model.proofs.Cases.{mapped_some, some_is}
use Rattle.sdr_base.specs.declared.kind.Space.TheVariants as spaces
use Rattle.sdr_model.specs.Amounts.{amounts_by, in_space}
use Rattle.sdr_model.specs.Charges.{capsule_bytes}
use Rattle.sdr_model.specs.Dry.{StepsDry, next_addr}
use Rattle.sdr_model.specs.Things.{capsule_need}
use Rattle.sdr_model.specs.Zco.{object_at}
use Rattle.sdr_model.specs.declared.answer.Reply.TheVariants as replies
use Rattle.mem_parts.specs.Sides.{capsule_call, component_on}
use Rattle.mem_zco_calls.proofs.CapsuleLemmas.{capsule-moves, capsule-row, capsule_in, some_capsule}
use Rattle.mem_zco_calls.proofs.ObjectCallLemmas.{component-refused, component-step}
use Rattle.mem_zco_calls.proofs.capsule_calls.add_capsule.Goals as goal

pub returns-in-Err : goal.returns-in-Err
returns-in-Err c =
    let w = c.args.world.now.now in
    let text = c.args.text.now in
    let z = some_is (object_at w c.args.addr)
    (ap is_some (sym c.object.ensures.is) ∙ mapped_some _ c.object.result ∙ c.is_none.ensures ∙ ap not c.if-is_none.false) in
    let component : c.component-capsule.result ≡ capsule_in c.args.side w c.args.addr c.args.number text (next_addr w.taken) =
    c.component-capsule.ensures
    ∙ ap₂ (λ block text. component_on c.args.side (record { block = block; text = text })) c.next-block.ensures.value
    (c.in_ok-text.ensures ∙ c.as_slice.ensures) in
    let charge : c.heap_charge-charge.result ≡ amounts_by (in_space spaces.Heap (capsule_bytes (length text))) =
    c.heap_charge-charge.ensures ∙ ap (λ n. amounts_by (in_space spaces.Heap n)) (c.capsule_bytes.ensures ∙ ap capsule_bytes c.len-length.ensures) in
    let some = some_capsule (length text) (omega (arith, c.len-length.ensures)) (omega (arith, c.len-length.ensures)) in
    record {
      step = component-refused w c.add_component.new.world.now (capsule_call c.args.side c.args.addr c.args.number text) c.args.addr
          c.args.number (capsule_need (length text)) (in_space spaces.Heap (capsule_bytes (length text))) c.heap_charge-charge.result
          z.0 (capsule_in c.args.side w c.args.addr c.args.number text) c.component-capsule.result
          (capsule-row c.args.side w c.args.addr c.args.number text z.0 z.1 some) charge z.1 component _
          c.in-Err.refusal c.in-Err.is c.in_ok-add_component.ensures.refused c.in_ok-add_component.ensures.same;
      begun = c.add_component.ensures.keeps.begun;
      same = tt;
    }

pub returns-in-Ok : goal.returns-in-Ok
returns-in-Ok c =
    let w = c.args.world.now.now in
    let text = c.args.text.now in
    let z = some_is (object_at w c.args.addr)
    (ap is_some (sym c.object.ensures.is) ∙ mapped_some _ c.object.result ∙ c.is_none.ensures ∙ ap not c.if-is_none.false) in
    let component : c.component-capsule.result ≡ capsule_in c.args.side w c.args.addr c.args.number text (next_addr w.taken) =
    c.component-capsule.ensures
    ∙ ap₂ (λ block text. component_on c.args.side (record { block = block; text = text })) c.next-block.ensures.value
    (c.in_ok-text.ensures ∙ c.as_slice.ensures) in
    let charge : c.heap_charge-charge.result ≡ amounts_by (in_space spaces.Heap (capsule_bytes (length text))) =
    c.heap_charge-charge.ensures ∙ ap (λ n. amounts_by (in_space spaces.Heap n)) (c.capsule_bytes.ensures ∙ ap capsule_bytes c.len-length.ensures) in
    let some = some_capsule (length text) (omega (arith, c.len-length.ensures)) (omega (arith, c.len-length.ensures)) in
    let call = capsule_call c.args.side c.args.addr c.args.number text in
    record {
      step = subst (λ moves. StepsDry w call moves c.add_component.new.world.now replies.Done)
          (sym (capsule-moves c.args.side w c.args.addr c.args.number text))
          (component-step w c.add_component.new.world.now call c.args.addr c.args.number (capsule_need (length text))
          (in_space spaces.Heap (capsule_bytes (length text))) c.heap_charge-charge.result z.0
          (capsule_in c.args.side w c.args.addr c.args.number text) c.component-capsule.result
          (capsule-row c.args.side w c.args.addr c.args.number text z.0 z.1 some) charge z.1 component _
          c.in-Ok.field-0 c.in-Ok.is c.in_ok-add_component.ensures.allowed c.in_ok-add_component.ensures.added);
      begun = c.add_component.ensures.keeps.begun;
      same = tt;
    }
