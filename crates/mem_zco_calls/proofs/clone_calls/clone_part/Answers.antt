use Rattle.std.proofs.Common.{◌+◌, ◌*◌, ◌∙◌, ℕ, ap, sym, arith, length}
use Rattle.sdr_model.specs.Few.{most_pieces}
use Rattle.sdr_model.specs.PartSteps.{asked_extents}
use Rattle.sdr_model.specs.World.{World}
use Rattle.sdr_model.specs.declared.zco.ZcoObject.{ZcoObject}
use Rattle.sdr_model.proofs.FewLemmas.{few_of_object, length-cut_all, length-placed}
use Rattle.mem_zco_calls.proofs.CloneCallLemmas.{clone-owned, clone-refused, clone-step}
use Rattle.mem_zco_calls.proofs.clone_calls.clone_part.Goals as goal

pub cloned-requires-clause-room : goal.cloned-requires-clause-room
cloned-requires-clause-room c =
    omega (
      arith,
      c.next-made.ensures.value,
      c.requires.may.taken,
      few_of_object most_pieces c.args.world.now.now c.args.addr c.in-Some.object.now c.requires.may.few (sym c.in-Some.ensures.is),
    )

pub charge_blocks-requires-clause-taken : goal.charge_blocks-requires-clause-taken
charge_blocks-requires-clause-taken c =
    let w : World = c.args.world.now.now in
    let z : ZcoObject = c.in-Some.object.now in
    let from : ℕ = z.part.offset + c.args.offset in
    omega (
      arith,
      c.len.ensures,
      ap (λ (y : ZcoObject). length y.extents) c.in_ok-clone.ensures,
      length-placed (λ i. c.next-made.result + 8 * i) 1 (asked_extents z c.args.offset c.args.bytes),
      ap (λ (v : World). v.taken) c.touch.ensures.now,
      c.requires.may.taken,
      few_of_object most_pieces w c.args.addr z c.requires.may.few (sym c.in-Some.ensures.is),
      length-cut_all from (from + c.args.bytes) z.extents,
    )

pub returns-in-Err : goal.returns-in-Err
returns-in-Err c = record {
  step = clone-refused c.args.world.now.now c.touch.new.self.now c.charge_blocks.new.world.now c.in_ok-granted.field-0 c.touch.ensures.now
      c.args.addr c.args.number c.args.offset c.args.bytes c.next-made.result (1 + c.len.result) c.in-Some.object.now
      c.in_ok-clone.clone c.object_charge-charge.result c.requires.may.bound c.in-Some.ensures.is
      (sym c.is_outside.ensures ∙ c.if-is_outside.false) c.next-made.ensures.value c.in_ok-clone.ensures
      (ap (λ n. 1 + n) c.len.ensures) c.object_charge-charge.ensures
      c.in-Err.refusal c.in-Err.is c.in_ok-granted.ensures.refused c.in_ok-granted.ensures.same;
  begun = c.charge_blocks.ensures.keeps.begun ∙ c.touch.ensures.keeps.begun;
  same = tt;
}

pub put-requires-clause-may_put : goal.put-requires-clause-may_put
put-requires-clause-may_put c =
    clone-owned c.args.world.now.now c.touch.new.self.now c.charge_blocks.new.world.now c.in_ok-granted.field-0 c.touch.ensures.now
    c.args.addr c.args.number c.args.offset c.args.bytes c.next-made.result (1 + c.len.result) c.in-Some.object.now
    c.in_ok-clone.clone c.object_charge-charge.result c.requires.may.bound c.in-Some.ensures.is
    (sym c.is_outside.ensures ∙ c.if-is_outside.false) c.next-made.ensures.value c.in_ok-clone.ensures
    (ap (λ n. 1 + n) c.len.ensures) c.object_charge-charge.ensures
    c.charge_blocks.new.world.owners c.in-Ok.granted c.in-Ok.is c.in_ok-granted.ensures.taken c.in_ok-granted.ensures.owned

pub returns : goal.returns
returns c = record {
  step = clone-step c.args.world.now.now c.touch.new.self.now c.charge_blocks.new.world.now c.in_ok-granted.field-0 c.touch.ensures.now
      c.args.addr c.args.number c.args.offset c.args.bytes c.next-made.result (1 + c.len.result) c.in-Some.object.now
      c.in_ok-clone.clone c.object_charge-charge.result c.requires.may.bound c.in-Some.ensures.is
      (sym c.is_outside.ensures ∙ c.if-is_outside.false) c.next-made.ensures.value c.in_ok-clone.ensures
      (ap (λ n. 1 + n) c.len.ensures) c.object_charge-charge.ensures
      c.put.new.self.now c.in-Ok.granted c.in-Ok.is c.in_ok-granted.ensures.allowed c.in_ok-granted.ensures.taken
      c.put.ensures.put;
  begun = c.put.ensures.keeps.begun ∙ c.charge_blocks.ensures.keeps.begun ∙ c.touch.ensures.keeps.begun;
  same = tt;
}
