-- What an object charges and names that got one more component.
use Rattle.std.proofs.Common.{◌≡◌, ◌+◌, ◌==◌, ℕ, ◌∷◌, [], Bool, true, false, cond, Option, Some, None, ap, sym, ◌∙◌, refl, subst, arith}
use Rattle.std.proofs.lemmas.List.{length-append}
use Rattle.std.proofs.lemmas.List.Sums.{sum_by-append, sum_by-cons}
use Rattle.std.specs.FinMap.{get, remove}
use Rattle.std.specs.BTreeMap.{BTreeMap}
use Rattle.std.specs.Option.{option_and_then, option_map}
use Rattle.std.specs.Prelude.{IfSome, IsSome, if◌then◌else◌}
use Rattle.sdr_base.specs.declared.account.Acct.{Acct}
use Rattle.sdr_base.specs.declared.kind.Space.{Space}
use Rattle.sdr_base.specs.declared.kind.Space.TheVariants as spaces
use Rattle.sdr_model.specs.Accounts.{is_same_account}
use Rattle.sdr_model.specs.Amounts.{amount, amounts_by, in_space}
use Rattle.sdr_model.specs.Charges.{capsule_charge, object_charge}
use Rattle.sdr_model.specs.Things.{Things}
use Rattle.sdr_model.specs.Zco.{as_object, count_of, naming}
use Rattle.sdr_model.specs.declared.things.Thing.{Thing}
use Rattle.sdr_model.specs.declared.things.Thing.TheVariants as things
use Rattle.sdr_model.specs.declared.zco.Extent.{Extent}
use Rattle.sdr_model.specs.declared.zco.ZcoObject.{ZcoObject}
use Rattle.sdr_model.proofs.AmountLemmas.{same_amounts}
use Rattle.mem_parts.specs.Capped.{capped, capped_by}
use Rattle.mem_parts.specs.Components.{with_component}
use Rattle.mem_parts.specs.declared.component.Component.{Component}
use Rattle.mem_parts.specs.declared.component.Component.TheVariants as components
use Rattle.mem_store.specs.Charged.{own_extents, world_of}
use Rattle.mem_store.specs.Tallies.{AreNoted, Sums, Tallies, charge_named, charges_named, component_charge, component_source, counted, is_object_of, named_once, raw_named, IsGrowth}
use Rattle.mem_store.specs.Store.{growing, now_at, with_more}
use Rattle.mem_store.specs.declared.place.Place.{Place}
use Rattle.mem_store.specs.declared.tally.Growth.{Growth}
use Rattle.mem_store.specs.declared.tally.Tally.{Tally}
use Rattle.mem_store.proofs.RawsLemmas.{AreNoted-left, AreNoted-other}
use Rattle.mem_store.proofs.TallyLemmas.{charges-rest, count-rest}

-- what a word holds of heap space
pub heap_capped : (bytes : ℕ) → amounts_by (in_space spaces.Heap (capped bytes)) ≡ capped_by (in_space spaces.Heap bytes)
heap_capped bytes = same_amounts _ _ by
  where
    by : (space : Space) → amount (amounts_by (in_space spaces.Heap (capped bytes))) space ≡ amount (capped_by (in_space spaces.Heap bytes)) space
    by spaces.File = omega arith
    by spaces.Bulk = omega arith
    by spaces.Heap = omega arith

module _ (z : ZcoObject) where
  -- a component charges beside what is in the object
  charge-more : (component : Component) (space : Space)
      → object_charge space (with_component z component) ≡ object_charge space z + component_charge space component
  charge-more (components.Extent e) spaces.File = omega arith
  charge-more (components.Extent e) spaces.Bulk = omega arith
  charge-more (components.Extent e) spaces.Heap = omega (arith, length-append z.extents (e ∷ []))
  charge-more (components.Header c) space = omega (arith, sum_by-cons (capsule_charge space) c z.headers)
  charge-more (components.Trailer c) space =
      omega (arith, sum_by-append (capsule_charge space) z.trailers (c ∷ []), sum_by-cons (capsule_charge space) c [])

  -- it names a source beside them
  naming-more : (component : Component) (at : ℕ)
      → naming at (with_component z component).extents ≡ naming at z.extents + named_once (component_source component) at
  naming-more (components.Extent e) at =
      let one : Extent → ℕ = λ e. if e.source == at then 1 else 0 in
      omega (arith, sum_by-append one z.extents (e ∷ []), sum_by-cons one e [])
  naming-more (components.Header c) at = omega arith
  naming-more (components.Trailer c) at = omega arith

  same_account : (component : Component) → (with_component z component).account ≡ z.account
  same_account (components.Extent e) = refl
  same_account (components.Header c) = refl
  same_account (components.Trailer c) = refl

-- the tally of an account where an object got one more component
module _ (acct : Acct) (all all' : Things) (k : ℕ) (z : ZcoObject) (component : Component)
    (rest : remove all k ≡ remove all' k) (was : get all k ≡ Some (things.Object z))
    (is : get all' k ≡ Some (things.Object (with_component z component))) where
  charges-moved : (counts : ℕ → ℕ) (space : Space)
      → charges_named counts acct space all' + charge_named (counts k) acct space (Some (things.Object z))
      ≡ charges_named counts acct space all + charge_named (counts k) acct space (Some (things.Object (with_component z component)))
  charges-moved counts space =
      omega (
        arith,
        charges-rest all acct space counts k,
        charges-rest all' acct space counts k,
        ap (charges_named counts acct space) rest,
        ap (charge_named (counts k) acct space) was,
        ap (charge_named (counts k) acct space) is,
      )

  counts-moved : (at : ℕ) → count_of (world_of all') at acct + naming at (own_extents acct (Some (things.Object z)))
      ≡ count_of (world_of all) at acct + naming at (own_extents acct (Some (things.Object (with_component z component))))
  counts-moved at =
      omega (
        arith,
        count-rest all acct k at,
        count-rest all' acct k at,
        ap (λ all. count_of (world_of all) at acct) rest,
        ap (λ o. naming at (own_extents acct o)) was,
        ap (λ o. naming at (own_extents acct o)) is,
      )

  -- it has that too, where the object is one of the account
  pub Tallies-grown : (t new : Tally) → is_same_account acct z.account ≡ true
      → ((at : ℕ) → counted new at ≡ counted t at + named_once (component_source component) at)
      → (((space : Space) → amount t.charged space + component_charge space component ≡ charges_named (counted t) acct space all')
      → Sums acct all' new)
      → Tallies acct all t → Tallies acct all' new
  Tallies-grown t new own counts sums tallied = record {
    counts = λ at.
        omega (
          arith,
          counts at,
          tallied.counts at,
          counts-moved at,
          naming-more z component at,
          ap (λ b. naming at (cond b z.extents [])) own,
          ap (λ b. naming at (cond b (with_component z component).extents []))
              (ap (is_same_account acct) (same_account z component) ∙ own),
        );
    sums = sums (λ space. omega (
      arith,
      tallied.sums.each space,
      charges-moved (counted t) space,
      charge-more z component space,
      ap (λ b. cond b (object_charge space z) 0) own,
      ap (λ b. cond b (object_charge space (with_component z component)) 0)
          (ap (is_same_account acct) (same_account z component) ∙ own),
    ));
  }

  -- it is the same where the object is one of the other account
  pub Tallies-apart : (t : Tally) → is_same_account acct z.account ≡ false → Tallies acct all t → Tallies acct all' t
  Tallies-apart t other tallied = record {
    counts = λ at.
        omega (
          arith,
          tallied.counts at,
          counts-moved at,
          ap (λ b. naming at (cond b z.extents [])) other,
          ap (λ b. naming at (cond b (with_component z component).extents []))
              (ap (is_same_account acct) (same_account z component) ∙ other),
        );
    sums = record {
      each = λ space.
          omega (
            arith,
            tallied.sums.each space,
            charges-moved (counted t) space,
            ap (λ b. cond b (object_charge space z) 0) other,
            ap (λ b. cond b (object_charge space (with_component z component)) 0)
                (ap (is_same_account acct) (same_account z component) ∙ other),
          );
    };
  }

  -- so the tally that was made is, where one was
  pub grown-tally : (t : Tally) (growth : Growth) (o : Option Tally) → IsGrowth component growth → is_same_account acct z.account ≡ true
      → IfSome o (λ new. (at : ℕ) → counted new at ≡ counted t at + named_once growth.source at)
      → IfSome o (λ new. (acct : Acct) (of : Space → ℕ) → growth.charge ≡ capped_by of
      → ((space : Space) → amount t.charged space + of space ≡ charges_named (counted t) acct space all') → Sums acct all' new)
      → Tallies acct all t → IfSome o (Tallies acct all')
  grown-tally t growth None is own counts sums tallied = counts
  grown-tally t growth (Some new) is own counts sums tallied =
      Tallies-grown t new own (λ at. counts at ∙ ap (λ o. counted t at + named_once o at) is.source)
      (sums acct (λ space. component_charge space component) is.charge) tallied

  -- each raw object that a source names is noted as before
  pub noted-kept : (o : Option (BTreeMap ℕ ℕ)) → IfSome o (AreNoted all) → IfSome o (AreNoted all')
  noted-kept None are = are
  noted-kept (Some raws) are =
      AreNoted-other all' k raws (ap raw_named is)
      (subst (λ m. AreNoted m raws) rest (AreNoted-left all k raws are))

-- the account of an object that got a component is the object's
pub same_owner : {b : Bool} (acct : Acct) (z : ZcoObject) (component : Component)
    → is_object_of acct (Some (things.Object (with_component z component))) ≡ b → is_same_account acct z.account ≡ b
same_owner acct z component is = ap (is_same_account acct) (sym (same_account z component)) ∙ is

-- the object that is there
pub object_there : (o : Option Thing) → IsSome (as_object o) → (z : ZcoObject) × (o ≡ Some (things.Object z))
object_there (Some (things.Object z)) there = (z, refl)
object_there (Some t) there = absurd cc
object_there None there = absurd cc

-- what is at a place that got a component, where an object was
pub grown_here : (component : Component) (z : ZcoObject) (o : Option Place) → option_and_then now_at o ≡ Some (things.Object z)
    → option_and_then now_at (option_map (growing component) o) ≡ Some (things.Object (with_component z component))
grown_here component z None is = absurd cc
grown_here component z (Some place) is = ap (with_more component) is
