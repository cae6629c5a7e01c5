-- The numbers of sources, objects and tickets keep fitting.
use Rattle.std.proofs.Common.{◌≡◌, ◌+◌, ◌-◌, ◌*◌, ◌==◌, ◌||◌, ℕ, suc, List, [], ◌∷◌, ◌++◌, Bool, true, false, cond, Option, Some, None, length, map, nat_lt, refl, sym, subst, arith, get_or, MatchBool}
use Rattle.std.specs.Prelude.{All, IfSome}
use Rattle.std.proofs.lemmas.List.Elements.{All-append, All-cons, All-nil, All-push}
use Rattle.sdr_base.specs.declared.kind.Space.TheVariants as spaces
use Rattle.law_steps.proofs.AppendShapes.{TakesOver}
use Rattle.law_steps.proofs.BondShapes.{Bonds, valid_all}
use Rattle.law_steps.proofs.CloneShapes.{Clones}
use Rattle.law_steps.proofs.DistinctLemmas.{on_test}
use Rattle.law_steps.proofs.FieldLemmas.{KeepsFields, charges, does_with, fits_lost, fits_put, found, refused, tested, thing_fits}
use Rattle.law_steps.proofs.ObjectShapes.{in_range}
use Rattle.law_steps.proofs.ThingLemmas.{object_is, raw_is, source_is}
use Rattle.sdr_model.specs.BondSteps as bond
use Rattle.sdr_model.specs.Charges.{bytes_charge, object_charge}
use Rattle.sdr_model.specs.Cuts.{cut, cut_all, placed}
use Rattle.sdr_model.specs.Fields.{FitsCapsule, FitsExtent, FitsFields, FitsObject, FitsThing, IsWord}
use Rattle.sdr_model.specs.Gone.{without_things}
use Rattle.sdr_model.specs.ObjectSteps as object
use Rattle.sdr_model.specs.PartSteps as part
use Rattle.sdr_model.specs.SourceSteps.{new_source}
use Rattle.sdr_model.specs.Steps.{Outcome, taken_addresses, takes_from, with_thing, without_thing}
use Rattle.sdr_model.specs.Things.{extent_need}
use Rattle.sdr_model.specs.Valid.{AreInside, FitTogether, IsValid, IsValidCapsule, IsValidThing, LiesInside}
use Rattle.sdr_model.specs.World.{World, as_raw, thing_at}
use Rattle.sdr_model.specs.Zco.{object_at, source_at, source_naming}
use Rattle.sdr_model.specs.declared.answer.Reply.TheVariants as replies
use Rattle.sdr_model.specs.declared.things.Thing.{Thing}
use Rattle.sdr_model.specs.declared.things.Thing.TheVariants as things
use Rattle.sdr_model.specs.declared.zco.Capsule.{Capsule}
use Rattle.sdr_model.specs.declared.zco.Extent.{Extent}
use Rattle.sdr_model.specs.declared.zco.Subject.TheVariants as subjects
use Rattle.sdr_model.specs.declared.zco.ZcoObject.{ZcoObject}
use Rattle.sdr_model.specs.declared.zco.ZcoSource.{ZcoSource}

-- all but the first
rest_of : {X : Type 0} (P : X → Type 0) (x : X) (xs : List X) → All P (x ∷ xs) → All P xs
rest_of P x xs all = λ i d within. all (suc i) d (omega (arith, within))

-- a world with this thing at an address, or without the one there
pub put_fits : (w : World) (addr : ℕ) (t : Thing) → IsWord addr → FitsThing t → FitsFields w
    → FitsFields (with_thing w addr t)
put_fits w addr t word fit fits = fits_put w fits (with_thing w addr t) addr t refl refl refl word fit

pub lost_fits : (w : World) (addr : ℕ) → FitsFields w → FitsFields (without_thing w addr)
lost_fits w addr fits = fits_lost w fits (without_thing w addr) addr refl refl refl

pub gone_fits : (w : World) (addrs : List ℕ) → FitsFields w → FitsFields (without_things w addrs)
gone_fits w [] fits = fits
gone_fits w (addr ∷ addrs) fits = gone_fits (without_thing w addr) addrs (lost_fits w addr fits)

-- the end of an extent is a word too
pub record EndsInWord (e : Extent) : Type 0 where
  pub fits : FitsExtent e
  pub ends : IsWord (e.offset + e.length)

-- cut extents fit
pub cut_fits : (from to : ℕ) (es : List Extent) → All EndsInWord es → All FitsExtent (cut_all from to es)
cut_fits from to [] all = All-nil _
cut_fits from to (e ∷ es) all =
    let kept = cut_all (from - e.length) (to - e.length) es in
    let fit = cut_fits (from - e.length) (to - e.length) es (rest_of EndsInWord e es all) in
    let its = all 0 e (omega arith) in
    on_test ((cut from to e).length == 0)
    (λ none. subst (λ b. All FitsExtent (cond b kept (cut from to e ∷ kept))) (sym none) fit)
    (λ some. subst (λ b. All FitsExtent (cond b kept (cut from to e ∷ kept))) (sym some)
    (All-cons FitsExtent (cut from to e) kept
    (record {
      block = its.fits.block;
      source = its.fits.source;
      offset = omega (arith, its.ends);
      length = omega (arith, its.ends);
    }) fit))

-- and placed ones
placed_fits : (at : ℕ → ℕ) (k : ℕ) (es : List Extent) → All FitsExtent es
    → All IsWord (taken_addresses (takes_from at k (map (λ e. extent_need) es))) → All FitsExtent (placed at k es)
placed_fits at k [] all words = All-nil _
placed_fits at k (e ∷ es) all words =
    let its = all 0 e (omega arith) in
    All-cons FitsExtent (record e { block = at k }) (placed at (suc k) es)
    (record { block = words 0 0 (omega arith); source = its.source; offset = its.offset; length = its.length })
    (placed_fits at (suc k) es (rest_of FitsExtent e es all)
    (rest_of IsWord (at k) (taken_addresses (takes_from at (suc k) (map (λ e. extent_need) es))) words))

-- what headers and trailers become
bonded_fits : (at : ℕ → ℕ) (k : ℕ) (cs : List Capsule) → All IsValidCapsule cs
    → All IsWord (taken_addresses (bond.bond_moves at k cs)) → All FitsExtent (bond.bonded_extents at k cs)
bonded_fits at k [] valid words = All-nil _
bonded_fits at k (c ∷ cs) valid words =
    let addrs = taken_addresses (bond.bond_moves at (k + 3) cs) in
    let short = (valid 0 c (omega arith)).1 in
    All-cons FitsExtent (record { block = at (k + 2); source = at (k + 1); offset = 0; length = length c.text })
    (bond.bonded_extents at (k + 3) cs)
    (record {
      block = words 2 0 (omega arith);
      source = words 1 0 (omega arith);
      offset = omega arith;
      length = omega (arith, short);
    })
    (bonded_fits at (k + 3) cs (rest_of IsValidCapsule c cs valid)
    (rest_of IsWord (at (k + 2)) addrs
    (rest_of IsWord (at (k + 1)) (at (k + 2) ∷ addrs)
    (rest_of IsWord (at k) (at (k + 1) ∷ at (k + 2) ∷ addrs) words))))

with_bonded_fits : (w : World) (at : ℕ → ℕ) (k : ℕ) (cs : List Capsule) → All IsValidCapsule cs → All FitsCapsule cs
    → All IsWord (taken_addresses (bond.bond_moves at k cs)) → FitsFields w → FitsFields (bond.with_bonded w at k cs)
with_bonded_fits w at k [] valid fit words fits = fits
with_bonded_fits w at k (c ∷ cs) valid fit words fits =
    let addrs = taken_addresses (bond.bond_moves at (k + 3) cs) in
    let short = (valid 0 c (omega arith)).1 in
    let raw = things.Raw c.text in
    let source = things.Source (new_source (subjects.Heap (at k)) (length c.text)) in
    with_bonded_fits (with_thing (with_thing w (at k) raw) (at (k + 1)) source) at (k + 3) cs
    (rest_of IsValidCapsule c cs valid) (rest_of FitsCapsule c cs fit)
    (rest_of IsWord (at (k + 2)) addrs
    (rest_of IsWord (at (k + 1)) (at (k + 2) ∷ addrs)
    (rest_of IsWord (at k) (at (k + 1) ∷ at (k + 2) ∷ addrs) words)))
    (put_fits (with_thing w (at k) raw) (at (k + 1)) source (words 1 0 (omega arith))
    (record { subject = words 0 0 (omega arith); length = omega (arith, short) })
    (put_fits w (at k) raw (words 0 0 (omega arith)) (fit 0 c (omega arith)).text fits))

-- a longer part of the addresses that are taken begins with a shorter one
first_words : (at : ℕ → ℕ) (k : ℕ) (a b : List Capsule)
    → All IsWord (taken_addresses (bond.bond_moves at k (a ++ b)))
    → All IsWord (taken_addresses (bond.bond_moves at k a)) ×
    All IsWord (taken_addresses (bond.bond_moves at (k + 3 * length a) b))
first_words at k [] b words =
    (All-nil _, subst (λ n. All IsWord (taken_addresses (bond.bond_moves at n b))) (omega arith) words)
first_words at k (c ∷ a) b words =
    let addrs = taken_addresses (bond.bond_moves at (k + 3) (a ++ b)) in
    let rest = first_words at (k + 3) a b
    (rest_of IsWord (at (k + 2)) addrs
    (rest_of IsWord (at (k + 1)) (at (k + 2) ∷ addrs)
    (rest_of IsWord (at k) (at (k + 1) ∷ at (k + 2) ∷ addrs) words))) in
    let own = taken_addresses (bond.bond_moves at (k + 3) a) in
    let next : k + 3 + 3 * length a ≡ k + 3 * length (c ∷ a) = omega arith in (
      All-cons IsWord (at k) (at (k + 1) ∷ at (k + 2) ∷ own) (words 0 0 (omega arith))
          (All-cons IsWord (at (k + 1)) (at (k + 2) ∷ own) (words 1 0 (omega arith))
          (All-cons IsWord (at (k + 2)) own (words 2 0 (omega arith)) rest.0)),
      subst (λ n. All IsWord (taken_addresses (bond.bond_moves at n b))) next rest.1,
    )

-- an object with one more extent
pub with_extent_fits : (z : ZcoObject) (e : Extent) → FitsExtent e → FitsObject z → FitsObject (object.with_extent z e)
with_extent_fits z e its old =
    record { headers = old.headers; extents = All-push FitsExtent z.extents e old.extents its; trailers = old.trailers }

-- an outcome where a test fails
pub in_test : {w : World} {P Q : Outcome → Type 0} (b : Bool) → KeepsFields w P → (b ≡ false → KeepsFields w Q)
    → KeepsFields w (λ o. MatchBool b (P o) (Q o))
in_test true p q = p
in_test false p q = q refl

-- a thing of a valid world keeps its limits
pub its_limits : (w : World) → IsValid w → (addr : ℕ) (t : Thing) → thing_at w addr ≡ Some t → IsValidThing t
its_limits w valid addr t is = subst (λ o. IfSome o IsValidThing) is (valid.things addr)

module _ (w : World) (valid : IsValid w) (fit : FitTogether w) where
  -- the extents of an object end in words
  pub extents_end : FitsFields w → (addr : ℕ) (z : ZcoObject) → object_at w addr ≡ Some z → All EndsInWord z.extents
  extents_end fits addr z is i d within =
      let e = get_or z.extents i d in
      let its = (thing_fits w fits addr (things.Object z) (object_is _ _ is)).1.extents i d within in
      let inside : All (λ e. LiesInside e (source_at w e.source)) z.extents =
      subst (λ o. IfSome o (AreInside w)) (object_is _ _ is) (fit.inside addr) in
      record { fits = its; ends = ends e (source_at w e.source) refl (inside i d within) }
    where
      ends : (e : Extent) (s : Option ZcoSource) → source_at w e.source ≡ s → LiesInside e s
          → IsWord (e.offset + e.length)
      ends e None none lies = absurd lies
      ends e (Some s) there lies =
          omega (arith, lies, (its_limits w valid e.source (things.Source s) (source_is _ _ there)).length)

  -- a part is cloned
  pub clones : (addr number offset bytes : ℕ) → KeepsFields w (λ o. part.ClonePart w o addr number offset bytes)
  clones addr number offset bytes =
      found (object_at w addr) refused (λ z is.
      let extents = part.asked_extents z offset bytes in
      tested (bytes == 0 || nat_lt z.part.length (offset + bytes)) refused
      (charges (λ o used. Clones w o z extents used) z.account number
      (λ space. object_charge space (part.object_of z.account extents)) (λ used like.
      does_with (λ at. part.clone_moves at extents)
      (λ at. object.with_object used (at 0) (part.object_of z.account (placed at 1 extents)))
      (λ at. replies.At (at 0)) (λ fits at words.
      put_fits used (at 0) (things.Object (part.object_of z.account (placed at 1 extents)))
      (words 0 0 (omega arith))
      (record {
        headers = All-nil _;
        extents = placed_fits at 1 extents
            (cut_fits (z.part.offset + offset) (z.part.offset + offset + bytes) z.extents (extents_end fits addr z is))
            (rest_of IsWord (at 0) (taken_addresses (takes_from at 1 (map (λ e. extent_need) extents))) words);
        trailers = All-nil _;
      }) (like fits)))))

  -- an object is bonded
  pub bonds : (addr number : ℕ) → KeepsFields w (λ o. bond.Bond w o addr number)
  bonds addr number =
      found (object_at w addr) refused (λ z is.
      let cs = bond.capsules_of z in
      charges (λ o used. Bonds w o addr z used) z.account number (bond.bond_charge cs) (λ used like.
      does_with (λ at. bond.bond_moves at 0 cs)
      (λ at. object.with_object (bond.with_bonded used at 0 cs) addr (bond.bonded at z)) (λ at. replies.Done)
      (λ fits at words.
      let old = thing_fits w fits addr (things.Object z) (object_is _ _ is) in
      let limits = its_limits w valid addr (things.Object z) (object_is _ _ is) in
      let parts = first_words at 0 z.headers z.trailers words in
      let first = bond.bonded_extents at 0 z.headers in
      let last = bond.bonded_extents at (3 * length z.headers) z.trailers in
      put_fits (bond.with_bonded used at 0 cs) addr (things.Object (bond.bonded at z)) old.0
      (record {
        headers = All-nil _;
        extents = All-append FitsExtent (first ++ z.extents) last
            (All-append FitsExtent first z.extents (bonded_fits at 0 z.headers limits.headers parts.0) old.1.extents)
            (bonded_fits at (3 * length z.headers) z.trailers limits.trailers
            (subst (λ n. All IsWord (taken_addresses (bond.bond_moves at n z.trailers))) (omega arith) parts.1));
        trailers = All-nil _;
      })
      (with_bonded_fits used at 0 cs (valid_all z limits)
      (All-append FitsCapsule z.headers z.trailers old.1.headers old.1.trailers) words (like fits)))))

  -- a raw object is appended
  pub appends_raw : (addr : ℕ) (z : ZcoObject) (number raw : ℕ) (text : List ℕ) (offset bytes : ℕ)
      → object_at w addr ≡ Some z → as_raw (thing_at w raw) ≡ Some text
      → KeepsFields w (λ o. object.AppendsRaw w o addr z number raw text offset bytes)
  appends_raw addr z number raw text offset bytes is there =
      found (source_naming w raw)
      (in_test (bytes == 0 || nat_lt (length text) (offset + bytes)) refused (λ ranged.
      charges (λ o used. TakesOver w o addr z raw text offset bytes used) z.account number
      (bytes_charge spaces.Heap (length text)) (λ used like.
      let source = things.Source (new_source (subjects.Heap raw) (length text)) in
      does_with object.raw_append_moves
      (λ at. object.with_object (with_thing used (at 0) source) addr
      (object.with_extent z (record { block = at 1; source = at 0; offset = offset; length = bytes })))
      (λ at. replies.Done) (λ fits at words.
      let old = thing_fits w fits addr (things.Object z) (object_is _ _ is) in
      let short = its_limits w valid raw (things.Raw text) (raw_is _ _ there) in
      let e : Extent = record { block = at 1; source = at 0; offset = offset; length = bytes } in
      put_fits (with_thing used (at 0) source) addr (things.Object (object.with_extent z e)) old.0
      (with_extent_fits z e (record {
        block = words 1 0 (omega arith);
        source = words 0 0 (omega arith);
        offset = omega (arith, (in_range offset bytes (length text) ranged).1, short);
        length = omega (arith, (in_range offset bytes (length text) ranged).1, short);
      }) old.1)
      (put_fits used (at 0) source (words 0 0 (omega arith))
      (record {
        subject = (thing_fits w fits raw (things.Raw text) (raw_is _ _ there)).0;
        length = omega (arith, short);
      }) (like fits))))))
      (λ s named. refused)
