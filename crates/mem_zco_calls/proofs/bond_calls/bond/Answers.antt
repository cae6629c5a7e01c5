use Rattle.std.proofs.Common.{◌≡◌, ◌≤◌, ◌+◌, ◌*◌, ◌∙◌, ap, sym, subst, arith, length}
use Rattle.std.specs.List.{sum_by}
use Rattle.std.specs.Prelude.{Contains, ◌^◌}
use Rattle.sdr_base.specs.declared.kind.Space.TheVariants as spaces
use Rattle.sdr_model.specs.Amounts.{amounts_by}
use Rattle.sdr_model.specs.BondSteps.{bond_charge}
use Rattle.sdr_model.specs.Charges.{capsule_charge}
use Rattle.sdr_model.specs.Dry.{addr_after, next_addr}
use Rattle.sdr_model.specs.ObjectSteps.{with_object}
use Rattle.sdr_model.specs.World.{World}
use Rattle.sdr_model.specs.declared.things.Thing.TheVariants as things
use Rattle.mem_store.specs.Owners.{OwnsInside}
use Rattle.mem_store.proofs.TakenLemmas.{addr_after-next}
use Rattle.mem_zco_calls.proofs.BlockCallLemmas.{counted-at}
use Rattle.mem_zco_calls.proofs.BondCallLemmas.{capsules-few, capsules-small, wire-small}
use Rattle.mem_zco_calls.proofs.BondRowLemmas.{bond-owned, bond-refused, bond-step, bonded-taken}
use Rattle.mem_zco_calls.proofs.bond_calls.bond.Goals as goal

pub bonded-requires-clause-small : goal.bonded-requires-clause-small
bonded-requires-clause-small c =
    wire-small c.args.world.now.now c.requires.may c.args.addr c.in-Some.object.now (sym c.in-Some.ensures.is)

pub bond_charge-charge-requires : goal.bond_charge-charge-requires
bond_charge-charge-requires c = record {
  small = subst (λ cs. sum_by (capsule_charge spaces.Heap) cs ≤ 2 ^ 41) (sym (c.as_slice.ensures.value ∙ c.in_ok-capsules.ensures))
      (capsules-small c.args.world.now.now c.args.addr c.in-Some.object.now c.requires.may.bound (sym c.in-Some.ensures.is));
}

pub touch_next-requires : goal.touch_next-requires
touch_next-requires c = record {
  taken = omega (
    arith,
    ap (λ (v : World). v.taken) c.touch.ensures.now,
    c.requires.may.taken,
    c.len.ensures,
    c.in_ok-capsules.capsules.ok.0,
    ap length c.in_ok-capsules.ensures,
    capsules-few c.args.world.now.now c.args.addr c.in-Some.object.now c.requires.may.few (sym c.in-Some.ensures.is),
  );
}

pub charge_blocks-requires-clause-taken : goal.charge_blocks-requires-clause-taken
charge_blocks-requires-clause-taken c =
    omega (
      arith,
      ap (λ (v : World). v.taken) (c.touch_next.ensures.now ∙ c.touch.ensures.now),
      c.requires.may.taken,
      c.len.ensures,
      c.in_ok-capsules.capsules.ok.0,
      ap length c.in_ok-capsules.ensures,
      capsules-few c.args.world.now.now c.args.addr c.in-Some.object.now c.requires.may.few (sym c.in-Some.ensures.is),
    )

pub returns-in-Err : goal.returns-in-Err
returns-in-Err c = record {
  step = bond-refused c.args.world.now.now c.touch_next.new.self.now c.charge_blocks.new.world.now c.in_ok-granted.field-0
      (c.touch_next.ensures.now ∙ c.touch.ensures.now) c.args.addr c.args.number c.next-first.result (3 * c.len.result)
      c.in-Some.object.now c.in_ok-changed.changed c.in_ok-capsules.capsules.items c.bond_charge-charge.result
      c.in-Some.ensures.is c.next-first.ensures.value c.in_ok-capsules.ensures c.in_ok-changed.ensures
      (omega (arith, c.len.ensures, c.in_ok-capsules.capsules.ok.0))
      (c.bond_charge-charge.ensures ∙ ap (λ l. amounts_by (bond_charge l)) c.as_slice.ensures.value)
      c.in-Err.refusal c.in-Err.is c.in_ok-granted.ensures.refused c.in_ok-granted.ensures.same;
  begun = c.charge_blocks.ensures.keeps.begun ∙ c.touch_next.ensures.keeps.begun ∙ c.touch.ensures.keeps.begun;
  same = tt;
}

pub put_texts-requires-clause-taken : goal.put_texts-requires-clause-taken
put_texts-requires-clause-taken c =
    let w : World = c.args.world.now.now in
    omega (
      arith,
      counted-at w c.touch_next.new.self.now c.charge_blocks.new.world.now c.in-Some.object.now.account c.args.number
          (3 * c.len.result) c.bond_charge-charge.result c.in_ok-granted.field-0 (c.touch_next.ensures.now ∙ c.touch.ensures.now)
          c.in-Ok.is c.in_ok-granted.ensures.taken,
      c.requires.may.taken,
      c.len.ensures,
      c.in_ok-capsules.capsules.ok.0,
      ap length c.in_ok-capsules.ensures,
      capsules-few w c.args.addr c.in-Some.object.now c.requires.may.few (sym c.in-Some.ensures.is),
    )

pub put_texts-requires-clause-touched : goal.put_texts-requires-clause-touched
put_texts-requires-clause-touched c =
    let first = c.next-first.result in
    let taken = c.touch.new.self.now.taken in
    λ k inside. subst (Contains c.charge_blocks.new.world.touched)
    (addr_after-next taken k
    ∙ (let here : next_addr (taken + k) ≡ first + 8 * k =
    omega (arith, c.next-first.ensures.value, ap (λ (v : World). v.taken) c.touch.ensures.now) in here))
    (c.charge_blocks.ensures.touched (addr_after taken k)
    (c.in_ok-touch_next.ensures.touched k (omega (arith, inside, c.len.ensures, c.in_ok-capsules.capsules.ok.0))))

pub put-requires-clause-touched : goal.put-requires-clause-touched
put-requires-clause-touched c =
    let addr = c.args.addr in
    c.put_texts.ensures.others addr (c.charge_blocks.ensures.touched addr
    (c.in_ok-touch_next.ensures.others addr c.in_ok-touch.ensures.touched))

pub put-requires-clause-may_put : goal.put-requires-clause-may_put
put-requires-clause-may_put c =
    let w : World = c.args.world.now.now in
    let wp : World = c.put_texts.new.world.now in
    let addr = c.args.addr in
    subst (λ o. OwnsInside o (next_addr wp.taken) addr (things.Object c.in_ok-changed.changed)) (sym c.put_texts.ensures.owners)
    (bond-owned c.args.world.now.now c.touch_next.new.self.now c.charge_blocks.new.world.now c.in_ok-granted.field-0
    (c.touch_next.ensures.now ∙ c.touch.ensures.now) c.args.addr c.args.number c.next-first.result (3 * c.len.result)
    c.in-Some.object.now c.in_ok-changed.changed c.in_ok-capsules.capsules.items c.bond_charge-charge.result
    c.in-Some.ensures.is c.next-first.ensures.value c.in_ok-capsules.ensures c.in_ok-changed.ensures
    (omega (arith, c.len.ensures, c.in_ok-capsules.capsules.ok.0))
    (c.bond_charge-charge.ensures ∙ ap (λ l. amounts_by (bond_charge l)) c.as_slice.ensures.value)
    c.touch_next.new.self.owners c.charge_blocks.new.world.owners (next_addr wp.taken) c.in-Ok.granted c.in-Ok.is
    c.in_ok-granted.ensures.taken
    (ap next_addr (ap (λ (v : World). v.taken) c.put_texts.ensures.put
    ∙ bonded-taken (λ k. c.next-first.result + 8 * k) c.in_ok-capsules.capsules.items c.charge_blocks.new.world.now 0))
    c.charge_blocks.ensures.others
    (subst (λ o. OwnsInside o (next_addr w.taken) addr (things.Object c.in-Some.object.now))
    (sym (c.touch_next.ensures.owners ∙ c.touch.ensures.owners)) c.in-Some.ensures.owned)
    c.in_ok-granted.ensures.owned)

pub returns : goal.returns
returns c = record {
  step = bond-step c.args.world.now.now c.touch_next.new.self.now c.charge_blocks.new.world.now c.in_ok-granted.field-0
      (c.touch_next.ensures.now ∙ c.touch.ensures.now) c.args.addr c.args.number c.next-first.result (3 * c.len.result)
      c.in-Some.object.now c.in_ok-changed.changed c.in_ok-capsules.capsules.items c.bond_charge-charge.result
      c.in-Some.ensures.is c.next-first.ensures.value c.in_ok-capsules.ensures c.in_ok-changed.ensures
      (omega (arith, c.len.ensures, c.in_ok-capsules.capsules.ok.0))
      (c.bond_charge-charge.ensures ∙ ap (λ l. amounts_by (bond_charge l)) c.as_slice.ensures.value)
      c.put.new.self.now c.in-Ok.granted c.in-Ok.is c.in_ok-granted.ensures.allowed c.in_ok-granted.ensures.taken
      (c.put.ensures.put ∙ ap (λ v. with_object v c.args.addr c.in_ok-changed.changed) c.put_texts.ensures.put);
  begun = c.put.ensures.keeps.begun ∙ c.put_texts.ensures.keeps.begun ∙ c.charge_blocks.ensures.keeps.begun
      ∙ c.touch_next.ensures.keeps.begun ∙ c.touch.ensures.keeps.begun;
  same = tt;
}
