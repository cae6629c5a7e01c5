-- Objects that get one more component.
use Rattle.std.proofs.Common.{◌≡◌, ◌≤◌, ◌++◌, ◌∷◌, ◌∙◌, [], ℕ, List, map, None, Option, Some, Ok, Err, refl, ap, append_assoc, subst, sym}
use Rattle.std.proofs.lemmas.List.{map-append}
use Rattle.std.proofs.lemmas.List.Elements.{All-append, All-cons, All-head, All-nil, All-tail}
use Rattle.std.specs.List.{All}
use Rattle.std.specs.FinMap.{get, insert}
use Rattle.std.specs.Prelude.{Result, IfErr, IfOk, IfSome, IsSome}
use Rattle.sdr_base.specs.declared.account.Amounts.{Amounts}
use Rattle.sdr_base.specs.declared.refusal.Refusal.{Refusal}
use Rattle.mem_world.specs.Allowed.{MayCharge, RefusesCharge}
use Rattle.sdr_model.specs.Charging.{with_covered}
use Rattle.sdr_model.specs.Dry.{with_blocks}
use Rattle.sdr_model.specs.ObjectSteps.{with_object}
use Rattle.sdr_model.specs.Things.{Owners, Things, block_for_capsule, block_for_extent, inner_blocks}
use Rattle.sdr_model.specs.World.{World}
use Rattle.sdr_model.specs.Zco.{as_object, object_at}
use Rattle.sdr_model.specs.declared.accounts.Pending.{Pending}
use Rattle.sdr_model.specs.declared.things.UsedBlock.{UsedBlock}
use Rattle.sdr_model.specs.declared.things.Thing.{Thing}
use Rattle.sdr_model.specs.declared.things.Thing.TheVariants as things
use Rattle.sdr_model.specs.declared.zco.ZcoObject.{ZcoObject}
use Rattle.mem_parts.specs.Components.{Grows, block_of, with_component}
use Rattle.mem_parts.specs.declared.component.Component.{Component}
use Rattle.mem_parts.specs.declared.component.Component.TheVariants as components
use Rattle.mem_store.proofs.OwnersLemmas.{OwnInside-insert, OwnInside-raised, OwnsInside-raised}
use Rattle.mem_store.specs.Owners.{AllOwnInside, IsOwned, OwnInside, Owns, OwnsInside}

-- what holds of all items of two lists holds of those of each
pub All-front : {X : Type 0} (P : X → Type 0) (xs ys : List X) → All P (xs ++ ys) → All P xs
All-front P [] ys all = All-nil P
All-front P (x ∷ xs) ys all =
    All-cons P x xs (All-head P x (xs ++ ys) all) (All-front P xs ys (All-tail P x (xs ++ ys) all))

pub All-back : {X : Type 0} (P : X → Type 0) (xs ys : List X) → All P (xs ++ ys) → All P ys
All-back P [] ys all = all
All-back P (x ∷ xs) ys all = All-back P xs ys (All-tail P x (xs ++ ys) all)

-- an object owns its new component too
pub owned-component : (owners : Owners) (next more k : ℕ) (z : ZcoObject) (component : Component) → next ≤ more
    → OwnsInside owners next k (things.Object z) → IsOwned owners more k (block_of component)
    → OwnsInside owners more k (things.Object (with_component z component))
owned-component owners next more k z component higher owns here = record { below = raised.below; inside = by component here }
  where
    raised : OwnsInside owners more k (things.Object z)
    raised = OwnsInside-raised owners next more higher k (things.Object z) owns

    P : UsedBlock → Type 0
    P = Owns owners more k

    headers : List UsedBlock
    headers = map block_for_capsule z.headers

    extents : List UsedBlock
    extents = map block_for_extent z.extents

    trailers : List UsedBlock
    trailers = map block_for_capsule z.trailers

    by : (component : Component) → IsOwned owners more k (block_of component)
        → All P (inner_blocks (things.Object (with_component z component)))
    by (components.Header c) here = All-cons P (block_for_capsule c) (inner_blocks (things.Object z)) here raised.inside
    by (components.Trailer c) here =
        subst (All P)
        (append_assoc (headers ++ extents) trailers (block_for_capsule c ∷ [])
        ∙ ap (λ (l : List UsedBlock). (headers ++ extents) ++ l)
        (sym (map-append block_for_capsule z.trailers (c ∷ []))))
        (All-append P (inner_blocks (things.Object z)) (block_for_capsule c ∷ []) raised.inside
        (All-cons P (block_for_capsule c) [] here (All-nil P)))
    by (components.Extent e) here =
        let front = All-front P (headers ++ extents) trailers raised.inside in
        All-append P (headers ++ map block_for_extent (z.extents ++ e ∷ [])) trailers
        (All-append P headers (map block_for_extent (z.extents ++ e ∷ [])) (All-front P headers extents front)
        (subst (All P) (sym (map-append block_for_extent z.extents (e ∷ [])))
        (All-append P extents (block_for_extent e ∷ []) (All-back P headers extents front)
        (All-cons P (block_for_extent e) [] here (All-nil P)))))
        (All-back P (headers ++ extents) trailers raised.inside)

-- what is told of a call that adds a component, where only notes were taken before it
module _ (w wt : World) (k number count : ℕ) (z : ZcoObject) (component made : Component)
    (amounts : Amounts) (same : wt ≡ w) (there : object_at w k ≡ Some z) (is : component ≡ made) where
  -- the account refuses it
  pub refused_at : (r : Result (Option Pending) Refusal) (refusal : Refusal) → r ≡ Err refusal
      → IfErr r (λ refusal. IfSome (object_at wt k) (λ z. RefusesCharge wt z.account number amounts refusal))
      → RefusesCharge w z.account number amounts refusal
  refused_at r refusal err refused =
      subst (λ o. IfSome o (λ z. RefusesCharge w z.account number amounts refusal)) there
      (subst (λ v. IfSome (object_at v k) (λ z. RefusesCharge v z.account number amounts refusal)) same
      (subst (λ r. IfErr r (λ refusal. IfSome (object_at wt k) (λ z. RefusesCharge wt z.account number amounts refusal)))
      err refused))

  -- it may be charged
  pub allowed_at : (r : Result (Option Pending) Refusal) (p : Option Pending) → r ≡ Ok p
      → IfOk r (λ p. IfSome (object_at wt k) (λ z. MayCharge wt z.account number amounts p))
      → MayCharge w z.account number amounts p
  allowed_at r p ok allowed =
      subst (λ o. IfSome o (λ z. MayCharge w z.account number amounts p)) there
      (subst (λ v. IfSome (object_at v k) (λ z. MayCharge v z.account number amounts p)) same
      (subst (λ r. IfOk r (λ p. IfSome (object_at wt k) (λ z. MayCharge wt z.account number amounts p)))
      ok allowed))

  -- the object has it
  pub grown_at : (w' : World) (r : Result (Option Pending) Refusal) (p : Option Pending) → r ≡ Ok p
      → IfOk r (λ p. Grows (object_at wt k) k component (with_blocks (with_covered wt p amounts) count) w')
      → w' ≡ with_object (with_blocks (with_covered w p amounts) count) k (with_component z made)
  grown_at w' r p ok grows =
      subst (λ o. Grows o k made (with_blocks (with_covered w p amounts) count) w') there
      (subst (λ v. Grows (object_at v k) k made (with_blocks (with_covered v p amounts) count) w') same
      (subst (λ m. Grows (object_at wt k) k m (with_blocks (with_covered wt p amounts) count) w') is
      (subst (λ r. IfOk r (λ p. Grows (object_at wt k) k component (with_blocks (with_covered wt p amounts) count) w'))
      ok grows)))

-- the things still own what is inside them where an object got a component that it owns
pub AllOwnInside-grown : (owners : Owners) (next more k : ℕ) (begun now new : Things) (component : Component) → next ≤ more
    → IsOwned owners more k (block_of component) → IsSome (as_object (get now k))
    → IfSome (as_object (get now k)) (λ z. new ≡ insert now k (things.Object (with_component z component)))
    → AllOwnInside owners next begun now → AllOwnInside owners more begun new
AllOwnInside-grown owners next more k begun now new component higher here there grown own = by (get now k) refl there grown
  where
    by : (o : Option Thing) → get now k ≡ o → IsSome (as_object o)
        → IfSome (as_object o) (λ z. new ≡ insert now k (things.Object (with_component z component)))
        → AllOwnInside owners more begun new
    by (Some (things.Object z)) is there grown = record {
      begun = OwnInside-raised owners next more higher begun own.begun;
      now =
          subst (OwnInside owners more) (sym grown)
          (OwnInside-insert owners more now k (OwnInside-raised owners next more higher now own.now)
          (things.Object (with_component z component))
          (owned-component owners next more k z component higher (own.now.each k (things.Object z) is) here));
    }
    by (Some t) is there grown = absurd cc
    by None is there grown = absurd cc

-- what an object that got a component makes of the world
pub Grows-inserted : (o : Option ZcoObject) (k : ℕ) (component : Component) (used w : World) (new : Things) → IsSome o
    → IfSome o (λ z. new ≡ insert used.things k (things.Object (with_component z component)))
    → w ≡ record used { things = new } → Grows o k component used w
Grows-inserted None k component used w new there grown is = absurd cc
Grows-inserted (Some z) k component used w new there grown is = is ∙ ap (λ (all : Things). record used { things = all }) grown
