use Rattle.std.proofs.Common.{◌≡◌, ◌+◌, ◌*◌, ◌∷◌, ap, sym, subst, ◌∙◌, arith, length}
use Rattle.std.specs.Prelude.{Contains}
use Rattle.std.specs.Vec.Iter.{into_iter_items}
use Rattle.mem_world.proofs.BondedLemmas.{bonded-shift}
use Rattle.mem_world.proofs.KeepsLemmas.{keeps_on}
use Rattle.sdr_model.specs.BondSteps.{with_bonded}
use Rattle.sdr_model.specs.World.{World}
use Rattle.mem_world.proofs.bonding.put_texts.Goals as goal

pub put_text-requires-clause-raw : goal.put_text-requires-clause-raw
put_text-requires-clause-raw c =
    let addr = c.loop-capsule.addr in
    subst (Contains c.loop-capsule.world.touched) (let same : addr + 0 ≡ addr = omega arith in same)
    (c.loop-capsule.invariant.touched 0 (omega (arith, ap length c.in-Some.ensures.steps.0)))

pub put_text-requires-clause-source : goal.put_text-requires-clause-source
put_text-requires-clause-source c = c.loop-capsule.invariant.touched 1 (omega (arith, ap length c.in-Some.ensures.steps.0))

pub loop-capsule-preserved : goal.loop-capsule-preserved
loop-capsule-preserved c =
    let old = c.loop-capsule.world in
    let new = c.put_text.new.world in
    let addr = c.loop-capsule.addr in
    let x = c.in-Some.capsule in
    let was = c.loop-capsule.invariant in
    let rest = into_iter_items c.next.new.self in
    let steps : into_iter_items c.loop-capsule.capsule-iterator ≡ x ∷ rest = c.in-Some.ensures.steps.0 in
    let longer = ap length steps in
    let taken : new.now.taken ≡ old.now.taken = ap (λ (w : World). w.taken) c.put_text.ensures.put in
    record {
      rest = omega (arith, was.rest, c.in-Some.ensures.steps.1, longer);
      below = omega (arith, was.below, longer, taken);
      taken = taken ∙ was.taken;
      touched = λ k less.
          subst (Contains new.touched) (let same : addr + 8 * (3 + k) ≡ addr + 24 + 8 * k = omega arith in same)
          (c.put_text.ensures.touched (addr + 8 * (3 + k)) (was.touched (3 + k) (omega (arith, less, longer))));
      put = bonded-shift (λ k. addr + 24 + 8 * k) (λ k. addr + 8 * k) rest new.now 0 3 (λ n. omega arith)
          ∙ ap (λ w. with_bonded w (λ k. addr + 8 * k) 3 rest) c.put_text.ensures.put
          ∙ sym (ap (with_bonded old.now (λ k. addr + 8 * k) 0) steps) ∙ was.put;
      owners = c.put_text.ensures.owners ∙ was.owners;
      others = λ a has. c.put_text.ensures.touched a (was.others a has);
      keeps = keeps_on was.keeps c.put_text.ensures.keeps;
    }
