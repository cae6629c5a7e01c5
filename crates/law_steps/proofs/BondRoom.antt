-- Addresses in use, while an object is bonded.
use Rattle.std.proofs.Common.{◌≡◌, ◌≤◌, ◌+◌, ℕ, List, ◌∷◌, Bool, true, false, is_some, nat_eq, Option, Some, None, map, refl, sym, ap, ◌∙◌, arith}
use Rattle.std.specs.Cmp.{nat_eq_equiv}
use Rattle.std.specs.List.{count_by, sum_by}
use Rattle.std.specs.Prelude.{Contains}
use Rattle.std.proofs.lemmas.Bool.{eqb-true}
use Rattle.std.proofs.lemmas.List.{map-append}
use Rattle.std.proofs.lemmas.List.Sums.{sum_by-append, sum_by-cons}
use Rattle.law_steps.proofs.Changes.{blocks_at}
use Rattle.law_steps.proofs.DistinctLemmas.{absent, count_by-cons, none_counted, on_test, once, others, others_counted, weight, weight_of}
use Rattle.law_steps.proofs.EditLemmas.{count_by-map}
use Rattle.law_steps.proofs.ObjectLemmas.{object_parts}
use Rattle.sdr_model.proofs.SumLemmas.{sum_by-map}
use Rattle.law_steps.proofs.ThingChanges.{own_addr}
use Rattle.law_steps.proofs.WorldChanges.{swapped, swapped_sums, thing_at-apart}
use Rattle.sdr_model.specs.Blocks.{addresses_of, blocks_of}
use Rattle.sdr_model.specs.BondSteps.{capsules_of}
use Rattle.sdr_model.specs.Things.{block_for_capsule, inner_blocks, own_block}
use Rattle.sdr_model.specs.Valid.{IsValid}
use Rattle.sdr_model.specs.World.{World, thing_at}
use Rattle.sdr_model.specs.declared.things.UsedBlock.{UsedBlock}
use Rattle.sdr_model.specs.declared.things.Thing.{Thing}
use Rattle.sdr_model.specs.declared.things.Thing.TheVariants as things
use Rattle.sdr_model.specs.declared.zco.Capsule.{Capsule}
use Rattle.sdr_model.specs.declared.zco.ZcoObject.{ZcoObject}

-- Where these addresses are in use, no thing and none of these headers and trailers is where another is.
pub record HasRoom (w : World) (cs : List Capsule) (used : List ℕ) : Type 0 where
  pub held : (x : ℕ) → weight (is_some (thing_at w x)) + count_by (nat_eq x) (map (λ c. c.block) cs)
      ≤ count_by (nat_eq x) used
  pub few : (x : ℕ) → count_by (nat_eq x) used ≤ 1

at_most_one : (b : Bool) → weight b ≤ 1
at_most_one true = omega arith
at_most_one false = omega arith

-- one more address in use
more_used : (x a : ℕ) (used : List ℕ) → ((x : ℕ) → count_by (nat_eq x) used ≤ 1) → ¬ Contains used a
    → count_by (nat_eq x) (a ∷ used) ≤ 1
more_used x a used few fresh = on_test (nat_eq x a)
    (λ e. omega (
      arith,
      count_by-cons (nat_eq x) a used,
      weight_of e,
      absent a used fresh,
      ap (λ i. count_by (nat_eq i) used) (eqb-true x a e),
    ))
    (λ e. omega (arith, count_by-cons (nat_eq x) a used, weight_of e, few x))

-- an address that isn't in use is taken, for a thing or not
pub room_taken : {w : World} {cs : List Capsule} {used : List ℕ} (a : ℕ) → HasRoom w cs used → ¬ Contains used a
    → HasRoom w cs (a ∷ used)
room_taken {w} {cs} {used} a room fresh = record {
  held = λ x. omega (arith, room.held x, count_by-cons (nat_eq x) a used);
  few = λ x. more_used x a used room.few fresh;
}

pub room_made : {w : World} {cs : List Capsule} {used : List ℕ} (a : ℕ) (t : Thing) → HasRoom w cs used → ¬ Contains used a
    → HasRoom (swapped w a (Some t)) cs (a ∷ used)
room_made {w} {cs} {used} a t room fresh = record {
  held = λ x. on_test (nat_eq x a)
      (λ e. omega (
        arith,
        room.held x,
        count_by-cons (nat_eq x) a used,
        weight_of e,
        absent a used fresh,
        ap (λ i. count_by (nat_eq i) used) (eqb-true x a e),
        at_most_one (is_some (thing_at (swapped w a (Some t)) x)),
      ))
      (λ e. omega (
        arith,
        room.held x,
        count_by-cons (nat_eq x) a used,
        weight_of e,
        ap (λ o. weight (is_some o)) (thing_at-apart w a (Some t) x (λ same.
            let itself : nat_eq x x ≡ true = nat_eq_equiv.refl x in
            let other : nat_eq x x ≡ false = ap (nat_eq x) same ∙ e in cc)),
      ));
  few = λ x. more_used x a used room.few fresh;
}

-- nothing is there before
pub room_empty : {w : World} {cs : List Capsule} {used : List ℕ} (a : ℕ) → HasRoom w cs used → ¬ Contains used a
    → thing_at w a ≡ None
room_empty {w} {cs} {used} a room fresh = by (thing_at w a) refl
  where
    by : (o : Option Thing) → thing_at w a ≡ o → thing_at w a ≡ None
    by None is = is
    by (Some t) is =
        absurd (omega (arith, room.held a, absent a used fresh, ap (λ o. weight (is_some o)) is))

-- and a header or trailer is given back
pub room_given : {w : World} {c : Capsule} {cs : List Capsule} {used : List ℕ} → HasRoom w (c ∷ cs) used
    → HasRoom w cs (others c.block used)
room_given {w} {c} {cs} {used} room = record {
  held = λ x.
      let first = count_by-cons (nat_eq x) c.block (map (λ (c : Capsule). c.block) cs) in
      on_test (nat_eq x c.block)
      (λ e. omega (arith, room.held x, room.few x, first, weight_of e))
      (λ e. omega (arith, room.held x, first, weight_of e, same x e));
  few = λ x.
      on_test (nat_eq x c.block)
      (λ e. omega (
        arith,
        none_counted c.block used,
        ap (λ i. count_by (nat_eq i) (others c.block used)) (eqb-true x c.block e),
      ))
      (λ e. omega (arith, room.few x, same x e));
}
  where
    same : (x : ℕ) → nat_eq x c.block ≡ false → count_by (nat_eq x) (others c.block used) ≡ count_by (nat_eq x) used
    same x e = others_counted x c.block used (λ same.
        let itself : nat_eq x x ≡ true = nat_eq_equiv.refl x in
        let other : nat_eq x x ≡ false = ap (nat_eq x) same ∙ e in cc)

-- a valid world has room for the headers and trailers of an object
pub room_first : (w : World) (addr : ℕ) (z : ZcoObject) → IsValid w → thing_at w addr ≡ Some (things.Object z)
    → HasRoom w (capsules_of z) (addresses_of (blocks_of w))
room_first w addr z valid is = record {
  held = λ x. by x (thing_at w x) refl;
  few = once nat_eq_equiv (addresses_of (blocks_of w)) valid.distinct_addresses;
}
  where
    counts : ℕ → UsedBlock → ℕ
    counts x b = weight (nat_eq x b.addr)

    all : (x : ℕ) → sum_by (λ b. weight (nat_eq x b.addr)) (blocks_of w)
        ≡ count_by (nat_eq x) (addresses_of (blocks_of w))
    all x = sym (count_by-map (λ (b : UsedBlock). b.addr) (nat_eq x) (blocks_of w))

    capsules : (x : ℕ) (cs : List Capsule)
        → sum_by (λ b. weight (nat_eq x b.addr)) (map block_for_capsule cs)
        ≡ count_by (nat_eq x) (map (λ (c : Capsule). c.block) cs)
    capsules x cs =
        sum_by-map (λ (b : UsedBlock). weight (nat_eq x b.addr)) block_for_capsule cs
        ∙ sym (count_by-map (λ (c : Capsule). c.block) (nat_eq x) cs)

    both : (x : ℕ) → count_by (nat_eq x) (map (λ (c : Capsule). c.block) (capsules_of z))
        ≡ count_by (nat_eq x) (map (λ (c : Capsule). c.block) z.headers) + count_by (nat_eq x)
        (map (λ (c : Capsule). c.block) z.trailers)
    both x =
        ap (count_by (nat_eq x)) (map-append (λ (c : Capsule). c.block) z.headers z.trailers)
        ∙ sum_by-append (λ y. weight (nat_eq x y)) (map (λ (c : Capsule). c.block) z.headers)
        (map (λ (c : Capsule). c.block) z.trailers)

    by : (x : ℕ) (o : Option Thing) → thing_at w x ≡ o
        → weight (is_some (thing_at w x)) + count_by (nat_eq x) (map (λ c. c.block) (capsules_of z))
        ≤ count_by (nat_eq x) (addresses_of (blocks_of w))
    by x o there =
        let at = λ (b : UsedBlock). weight (nat_eq x b.addr) in
        let lost = swapped_sums at w addr None in
        let its = ap (λ t. sum_by at (blocks_at addr t)) is in
        let parts = object_parts at addr z in
        on_test (nat_eq x addr)
        (λ e. omega (
          arith,
          all x,
          capsules x z.headers,
          capsules x z.trailers,
          both x,
          lost,
          its,
          parts,
          weight_of e,
          at_most_one (is_some (thing_at w x)),
        ))
        (λ e. omega (
          arith,
          all x,
          capsules x z.headers,
          capsules x z.trailers,
          both x,
          lost,
          its,
          parts,
          swapped_sums at (swapped w addr None) x None,
          ap (λ t. sum_by at (blocks_at x t)) (thing_at-apart w addr None x (λ same.
              let itself : nat_eq x x ≡ true = nat_eq_equiv.refl x in
              let other : nat_eq x x ≡ false = ap (nat_eq x) same ∙ e in cc)),
          one (thing_at w x),
        ))
      where
        one : (o : Option Thing)
            → weight (is_some o) ≤ sum_by (λ (b : UsedBlock). weight (nat_eq x b.addr)) (blocks_at x o)
        one None = omega arith
        one (Some t) =
            omega (
              arith,
              sum_by-cons (λ (b : UsedBlock). weight (nat_eq x b.addr)) (own_block x t) (inner_blocks t),
              weight_of (ap (nat_eq x) (own_addr x t) ∙ nat_eq_equiv.refl x),
            )
