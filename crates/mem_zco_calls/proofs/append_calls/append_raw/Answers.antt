use Rattle.std.proofs.Common.{◌≡◌, ◌+◌, ◌∙◌, ◌==◌, ◌||◌, ℕ, ap, ap₂, arith, false, length, subst, sym}
use Rattle.std.specs.Prelude.{IfSome, OnErr, nat_lt}
use Rattle.sdr_base.specs.declared.kind.Space.TheVariants as spaces
use Rattle.mem_world.proofs.ComponentLemmas.{allowed_at, grown_at, refused_at}
use Rattle.mem_world.proofs.CallingLemmas.{bounded_object}
use Rattle.sdr_model.proofs.Cases.{some_is}
use Rattle.sdr_model.specs.Amounts.{amounts_by}
use Rattle.sdr_model.specs.Charges.{bytes_charge}
use Rattle.sdr_model.specs.Charging.{with_covered}
use Rattle.sdr_model.specs.Dry.{next_addr, with_blocks}
use Rattle.sdr_model.specs.ObjectSteps.{with_object}
use Rattle.sdr_model.specs.SourceSteps.{new_source}
use Rattle.sdr_model.specs.Steps.{with_thing}
use Rattle.sdr_model.specs.Zco.{object_at}
use Rattle.sdr_model.specs.declared.call.Call.TheVariants as calls
use Rattle.sdr_model.specs.declared.things.Thing.TheVariants as things
use Rattle.sdr_model.specs.declared.zco.Subject.TheVariants as subjects
use Rattle.mem_parts.specs.Bounds.{IsBounded}
use Rattle.mem_parts.specs.Components.{with_component}
use Rattle.mem_parts.specs.declared.component.Component.{Component}
use Rattle.mem_parts.specs.declared.component.Component.TheVariants as components
use Rattle.mem_zco_calls.proofs.ObjectCallLemmas.{charged-refused}
use Rattle.mem_zco_calls.proofs.RawExtentLemmas.{AppendsAt, raw-row, raw-step}
use Rattle.mem_zco_calls.proofs.append_calls.append_raw.Goals as goal

pub add_component-requires-clause-bounded : goal.add_component-requires-clause-bounded
add_component-requires-clause-bounded c =
    let w = c.args.world.now.now in
    let k = c.args.asked.now.object in
    let z = some_is (object_at w k) c.requires.object in
    subst (λ v. IfSome (object_at v k) IsBounded) (sym c.touch.ensures.now)
    (subst (λ o. IfSome o IsBounded) (sym z.1) (bounded_object w c.requires.may k z.0 z.1))

pub returns-in-Err : goal.returns-in-Err
returns-in-Err c =
    let w = c.args.world.now.now in
    let a = c.args.asked.now in
    let src = c.next-source.result in
    let text = c.in-Some.bytes.now in
    let z = some_is (object_at w a.object) c.requires.object in
    let made : Component = components.Extent (record { block = src + 8; source = src; offset = a.offset; length = a.bytes }) in
    let inside : (a.bytes == 0 || nat_lt (length text) (a.offset + a.bytes)) ≡ false =
    ap (λ n. a.bytes == 0 || nat_lt n (a.offset + a.bytes)) (sym c.len-length.ensures) ∙ sym c.is_outside.ensures ∙ c.if-is_outside.false in
    let is : c.bytes_charge-charge.result ≡ amounts_by (bytes_charge spaces.Heap (length text)) =
    c.bytes_charge-charge.ensures ∙ ap (λ n. amounts_by (bytes_charge spaces.Heap n)) c.len-length.ensures in
    record {
      step = charged-refused w c.add_component.new.world.now (calls.AppendExtent a.object a.ticket a.named a.offset a.bytes)
          z.0.account a.ticket (bytes_charge spaces.Heap (length text)) c.bytes_charge-charge.result
          (AppendsAt w a.object a.ticket a.named a.offset a.bytes z.0 text)
          (raw-row w a.object a.ticket a.named a.offset a.bytes z.0 text z.1 c.requires.no_source (sym c.in-Some.ensures)
          (sym c.in_default-source_on.ensures) inside)
          is c.in-Err.refusal
          (refused_at w c.touch.new.self.now a.object a.ticket 2 z.0 c.extent-extent.result made
          c.bytes_charge-charge.result c.touch.ensures.now z.1 c.extent-extent.ensures _ c.in-Err.refusal c.in-Err.is c.in_ok-add_component.ensures.refused)
          (subst (λ r. OnErr r (c.add_component.new.world.now ≡ c.touch.new.self.now)) c.in-Err.is c.in_ok-add_component.ensures.same
          ∙ c.touch.ensures.now);
      begun = c.add_component.ensures.keeps.begun ∙ c.touch.ensures.keeps.begun;
      same = tt;
    }

pub returns-in-Ok : goal.returns-in-Ok
returns-in-Ok c =
    let w = c.args.world.now.now in
    let a = c.args.asked.now in
    let p = c.in-Ok.field-0 in
    let src : ℕ = next_addr w.taken in
    let text = c.in-Some.bytes.now in
    let z = some_is (object_at w a.object) c.requires.object in
    let extent = λ (block source : ℕ). components.Extent (record { block = block; source = source; offset = a.offset; length = a.bytes }) in
    let made : Component = extent (next_addr (w.taken + 1)) src in
    let component : c.extent-extent.result ≡ made =
    c.extent-extent.ensures ∙ ap₂ extent (omega (arith, c.next-source.ensures.value)) c.next-source.ensures.value in
    let inside : (a.bytes == 0 || nat_lt (length text) (a.offset + a.bytes)) ≡ false =
    ap (λ n. a.bytes == 0 || nat_lt n (a.offset + a.bytes)) (sym c.len-length.ensures) ∙ sym c.is_outside.ensures ∙ c.if-is_outside.false in
    let fresh = c.next-source.ensures.fresh src (omega (arith, c.next-source.ensures.value)) in
    let charges = c.bytes_charge-charge.result in
    let taking = λ (n : ℕ). things.Source (new_source (subjects.Heap a.named) n) in
    let grown = with_object (with_blocks (with_covered w p charges) 2) a.object (with_component z.0 made) in
    let put = grown_at w c.touch.new.self.now a.object a.ticket 2 z.0 c.extent-extent.result made charges c.touch.ensures.now z.1 component
    c.add_component.new.world.now _ p c.in-Ok.is c.in_ok-add_component.ensures.added in
    record {
      step = raw-step w a.object a.ticket a.named a.offset a.bytes z.0 text z.1 c.requires.no_source (sym c.in-Some.ensures)
          (sym c.in_default-source_on.ensures) inside c.put.new.self.now p charges
          (c.bytes_charge-charge.ensures ∙ ap (λ n. amounts_by (bytes_charge spaces.Heap n)) c.len-length.ensures)
          (allowed_at w c.touch.new.self.now a.object a.ticket 2 z.0 c.extent-extent.result made charges c.touch.ensures.now z.1 component
          _ p c.in-Ok.is c.in_ok-add_component.ensures.allowed)
          fresh
          (c.put.ensures.put ∙ ap (λ v. with_thing v c.next-source.result (taking c.len-length.result)) put
          ∙ ap₂ (λ s n. with_thing grown s (taking n)) c.next-source.ensures.value c.len-length.ensures);
      begun = c.put.ensures.keeps.begun ∙ c.add_component.ensures.keeps.begun ∙ c.touch.ensures.keeps.begun;
      same = tt;
    }
