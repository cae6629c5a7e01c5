-- A call adds one piece at most to an object.
use Rattle.std.proofs.Common.{◌≡◌, ◌≤◌, ◌+◌, ◌-◌, ◌*◌, ◌++◌, ◌∷◌, [], ℕ, suc, List, Bool, true, false, cond, Option, None, Some, length, ap, sym, ◌∙◌, refl, subst, arith, length-append}
use Rattle.std.specs.BTreeMap.{is_at}
use Rattle.std.specs.Cmp.{nat_cmp_total}
use Rattle.std.specs.FinMap as finite
use Rattle.std.specs.FinMap.{get-insert, get-remove}
use Rattle.std.specs.Ordering.{nat_cmp}
use Rattle.sdr_base.specs.declared.moves.Move.{Move}
use Rattle.sdr_base.specs.declared.moves.Move.TheVariants.{Took}
use Rattle.sdr_model.specs.BondSteps.{bonded, bonded_extents, with_bonded}
use Rattle.sdr_model.specs.Cuts.{cut_all, placed}
use Rattle.sdr_model.specs.Few.{HasFewPieces, pieces}
use Rattle.sdr_model.specs.Gone.{without_things}
use Rattle.sdr_model.specs.ObjectSteps.{with_extent}
use Rattle.sdr_model.specs.PartSteps.{object_of}
use Rattle.sdr_model.specs.SourceSteps.{new_source}
use Rattle.sdr_model.specs.Steps.{TakesOne, with_thing}
use Rattle.sdr_model.specs.Things.{Things}
use Rattle.sdr_model.specs.World.{World, thing_at}
use Rattle.sdr_model.specs.Zco.{as_object, object_at}
use Rattle.sdr_model.specs.declared.things.Thing.{Thing}
use Rattle.sdr_model.specs.declared.things.Thing.TheVariants as things
use Rattle.sdr_model.specs.declared.zco.Capsule.{Capsule}
use Rattle.sdr_model.specs.declared.zco.Extent.{Extent}
use Rattle.sdr_model.specs.declared.zco.Subject.TheVariants as subjects
use Rattle.sdr_model.specs.declared.zco.ZcoObject.{ZcoObject}

-- where the thing is an object, it has at most so many pieces
abbrev pub IsSmall : ℕ → Thing → Type 0
IsSmall most (things.Object z) = pieces z ≤ most
IsSmall most thing = Unit {0}

-- a bound holds of a greater number too
pub few_more : (most more : ℕ) (ts : Things) → most ≤ more → HasFewPieces most ts → HasFewPieces more ts
few_more most more ts le few = record { each = λ addr z is. omega (arith, few.each addr z is) }

small_of : (most : ℕ) (t : Thing) (z : ZcoObject) → IsSmall most t → Some t ≡ Some (things.Object z) → pieces z ≤ most
small_of most t z small is = subst (IsSmall most) (let e : t ≡ things.Object z = cc in e) small

put_few : (most : ℕ) (b : Bool) (thing : Thing) (o : Option Thing) (z : ZcoObject) → IsSmall most thing
    → (o ≡ Some (things.Object z) → pieces z ≤ most) → cond b (Some thing) o ≡ Some (things.Object z) → pieces z ≤ most
put_few most true thing o z small rest is = small_of most thing z small is
put_few most false thing o z small rest is = rest is

-- things with one more that is small
pub few_insert : (most : ℕ) (ts : Things) (addr : ℕ) (thing : Thing) → HasFewPieces most ts → IsSmall most thing
    → HasFewPieces most (finite.insert ts addr thing)
few_insert most ts addr thing few small = record {
  each = λ q z is.
      put_few most (is_at (nat_cmp q) addr) thing (finite.get ts q) z small (few.each q z) (sym (get-insert nat_cmp_total ts addr thing q) ∙ is);
}

lost_few : (most : ℕ) (b : Bool) (o : Option Thing) (z : ZcoObject)
    → (o ≡ Some (things.Object z) → pieces z ≤ most) → cond b None o ≡ Some (things.Object z) → pieces z ≤ most
lost_few most true o z rest is = cc
lost_few most false o z rest is = rest is

-- things without one
pub few_remove : (most : ℕ) (ts : Things) (addr : ℕ) → HasFewPieces most ts → HasFewPieces most (finite.remove ts addr)
few_remove most ts addr few = record {
  each = λ q z is.
      lost_few most (is_at (nat_cmp q) addr) (finite.get ts q) z (few.each q z) (sym (get-remove nat_cmp_total ts addr q) ∙ is);
}

-- things without some
pub few_without : (most : ℕ) (w : World) (addrs : List ℕ) → HasFewPieces most w.things
    → HasFewPieces most (without_things w addrs).things
few_without most w [] few = few
few_without most w (addr ∷ addrs) few =
    few_without most (record w { things = finite.remove w.things addr }) addrs (few_remove most w.things addr few)

-- things with the raw objects and sources that headers and trailers become
pub few_bonded : (most : ℕ) (w : World) (at : ℕ → ℕ) (k : ℕ) (cs : List Capsule) → HasFewPieces most w.things
    → HasFewPieces most (with_bonded w at k cs).things
few_bonded most w at k [] few = few
few_bonded most w at k (c ∷ cs) few =
    few_bonded most
    (with_thing (with_thing w (at k) (things.Raw c.text)) (at (k + 1)) (things.Source (new_source (subjects.Heap (at k)) (length c.text))))
    at (k + 3) cs (few_insert most _ (at (k + 1)) _ (few_insert most w.things (at k) (things.Raw c.text) few tt) tt)

-- an object that is there
pub object_is : (t : Option Thing) (z : ZcoObject) → as_object t ≡ Some z → t ≡ Some (things.Object z)
object_is None z is = cc
object_is (Some (things.Object x)) z is = ap (λ o. (elim o as (λ _. Option Thing) [ None ↦ None | Some x ↦ Some (things.Object x) ])) is
object_is (Some (things.Raw x)) z is = cc
object_is (Some (things.Text x)) z is = cc
object_is (Some (things.List x)) z is = cc
object_is (Some (things.Table x)) z is = cc
object_is (Some (things.Hash x)) z is = cc
object_is (Some (things.Source x)) z is = cc

-- an object of few pieces has few
pub few_of_object : (most : ℕ) (w : World) (addr : ℕ) (z : ZcoObject) → HasFewPieces most w.things
    → object_at w addr ≡ Some z → pieces z ≤ most
few_of_object most w addr z few is = few.each addr z (object_is (thing_at w addr) z is)

-- as many extents as headers or trailers that become some
pub length-bonded_extents : (at : ℕ → ℕ) (k : ℕ) (cs : List Capsule) → length (bonded_extents at k cs) ≡ length cs
length-bonded_extents at k [] = refl
length-bonded_extents at k (c ∷ cs) = ap suc (length-bonded_extents at (k + 3) cs)

-- bonding keeps the number of pieces
pub pieces-bonded : (at : ℕ → ℕ) (z : ZcoObject) → pieces (bonded at z) ≡ pieces z
pieces-bonded at z =
    let heads = bonded_extents at 0 z.headers in
    let tails = bonded_extents at (3 * length z.headers) z.trailers in
    omega (
      arith,
      length-bonded_extents at 0 z.headers,
      length-bonded_extents at (3 * length z.headers) z.trailers,
      length-append (heads ++ z.extents) tails,
      length-append heads z.extents,
    )

cut_few : (b : Bool) (e : Extent) (rest : List Extent) (n : ℕ) → length rest ≤ n
    → length (cond b rest (e ∷ rest)) ≤ suc n
cut_few true e rest n le = omega (arith, le)
cut_few false e rest n le = omega (arith, le)

-- a cut leaves no more extents
pub length-cut_all : (from to : ℕ) (es : List Extent) → length (cut_all from to es) ≤ length es
length-cut_all from to [] = omega arith
length-cut_all from to (e ∷ es) = cut_few _ _ _ _ (length-cut_all (from - e.length) (to - e.length) es)

-- as many extents are placed
pub length-placed : (at : ℕ → ℕ) (k : ℕ) (es : List Extent) → length (placed at k es) ≡ length es
length-placed at k [] = refl
length-placed at k (e ∷ es) = ap suc (length-placed at (suc k) es)

-- an extent more is a piece more
pub extended : {most : ℕ} (z : ZcoObject) (e : Extent) → pieces z ≤ most → pieces (with_extent z e) ≤ most + 1
extended z e small = omega (arith, small, length-append z.extents (e ∷ []))

-- a clone has no more pieces than its original
pub cloned : {most : ℕ} (z : ZcoObject) (from to : ℕ) (at : ℕ → ℕ) → pieces z ≤ most
    → pieces (object_of z.account (placed at 1 (cut_all from to z.extents))) ≤ most + 1
cloned z from to at small =
    omega (arith, small, length-placed at 1 (cut_all from to z.extents), length-cut_all from to z.extents)

-- what follows from a move that takes one block
pub in_takes_one : {R : Type 0} (moves : List Move) (need : ℕ) (P : ℕ → Type 0) → TakesOne moves need P
    → ((addr : ℕ) → P addr → R) → R
in_takes_one (Took n addr ∷ []) need P s f = f addr s.1
in_takes_one moves need P s f = absurd s
