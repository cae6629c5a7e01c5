-- Objects of a world in blocks, alone and together with the queue of their account.
use Rattle.std.proofs.Common.{◌≡◌, ◌∙◌, ◌+◌, ◌≤◌, ◌<◌, ◌^◌, ◌++◌, ℕ, List, [], ◌∷◌, Option, Some, None, map, refl, ap, subst, arith, append_assoc}
use Rattle.std.proofs.lemmas.List.{length-map}
use Rattle.std.proofs.lemmas.List.Elements.{All-cons, All-nil, recursion_from_All}
use Rattle.std.specs.FinMap as finite
use Rattle.std.specs.List.{AllByRecursion}
use Rattle.std.specs.Prelude.{All, IfSome}
use Rattle.step_things.proofs.KindLemmas.{own_in_use, thing_is_at}
use Rattle.step_things.proofs.ListLemmas.{IsSmall}
use Rattle.step_things.specs.Answering.{IsReady}
use Rattle.sdr_stands.proofs.ChangeLemmas.{apart}
use Rattle.sdr_stands.specs.Rows.{capsule_row, extent_row, object_row}
use Rattle.sdr_stands.specs.Standing.{HeapStandsFor, other_entries, thing_entries}
use Rattle.sdr_stands.specs.Ties.{ties_of}
use Rattle.sdr_base.specs.Blocks.{IsKind}
use Rattle.sdr_base.specs.Entries.{Entries, Swaps}
use Rattle.sdr_base.specs.Objects.{Heap}
use Rattle.sdr_base.specs.Section.{section}
use Rattle.sdr_base.specs.ZcoObjects.{object_entries}
use Rattle.sdr_base.specs.declared.kind.Kind.TheVariants as kinds
use Rattle.law_steps.proofs.SourceViews.{fits_from}
use Rattle.law_steps.proofs.ThingLemmas.{source_is}
use Rattle.sdr_model.proofs.SumLemmas.{sum_by-map}
use Rattle.sdr_model.specs.Accounts.{tickets_of}
use Rattle.sdr_model.specs.Fields.{FitsCapsule, FitsExtent, FitsObject, FitsThing, IsWord}
use Rattle.sdr_model.specs.Limits.{longest_source}
use Rattle.sdr_model.specs.Things.{own_block}
use Rattle.sdr_model.specs.Valid.{IsValid, IsValidCapsule, IsValidObject, IsValidThing, LiesInside}
use Rattle.sdr_model.specs.World.{World, thing_at}
use Rattle.sdr_model.specs.Zco.{as_object, object_at, source_at}
use Rattle.sdr_model.specs.declared.things.Thing.{Thing}
use Rattle.sdr_model.specs.declared.things.Thing.TheVariants as things
use Rattle.sdr_model.specs.declared.zco.Capsule.{Capsule}
use Rattle.sdr_model.specs.declared.zco.Extent.{Extent}
use Rattle.sdr_model.specs.declared.zco.ZcoObject.{ZcoObject}
use Rattle.sdr_model.specs.declared.zco.ZcoSource.{ZcoSource}
use Rattle.step_zco.proofs.AlikeLemmas.{StandAlike, one_first}
use Rattle.step_zco.proofs.FewLemmas.{few_blocks}
use Rattle.step_zco.proofs.MovingLemmas.{both_focused, queue_swap}
use Rattle.step_zco.proofs.ComingLemmas.{tickets_kept}
use Rattle.step_zco.proofs.QueueLemmas.{queue_kept}
use Rattle.zco_obj.specs.Beside.{KeepsBeside}
use Rattle.zco_obj.specs.Kept.{CapsuleFits, ExtentFits, KeepsObject, KeepsWithQueue, ObjectFits, parts_of}

-- the rows of headers and trailers fit
pub capsules_fit : (cs : List Capsule) → AllByRecursion IsValidCapsule cs → AllByRecursion FitsCapsule cs →
    All CapsuleFits (map capsule_row cs)
capsules_fit [] valid fits = All-nil CapsuleFits
capsules_fit (c ∷ cs) valid fits =
    All-cons CapsuleFits (capsule_row c) (map capsule_row cs) (record { addr = fits.0.block; short = valid.0.1 })
    (capsules_fit cs valid.1 fits.1)

-- a list of rows, from both facts
capsules_kept : (cs : List Capsule) → All IsValidCapsule cs → All FitsCapsule cs → All CapsuleFits (map capsule_row cs)
capsules_kept cs valid fits =
    capsules_fit cs (recursion_from_All IsValidCapsule cs valid) (recursion_from_All FitsCapsule cs fits)

-- an object, and where it is
pub record IsObjectAt (w : World) (addr : ℕ) : Type 0 where
  pub object : ZcoObject
  pub there : thing_at w addr ≡ Some (things.Object object)

-- in a heap that stands for a world in which calls are served
module _ (heap : Heap) (w : World) (s : HeapStandsFor heap w) (served : IsReady w) (small : IsSmall heap) where
  -- each source is short
  pub short_source : (q : ℕ) (source : ZcoSource) → source_at w q ≡ Some source → source.length ≤ longest_source
  short_source q source is =
      let valid = subst (λ (o : Option Thing). IfSome o IsValidThing) (source_is (thing_at w q) source is)
      (served.whole.valid.things q) in
      valid.length

  -- so an extent ends within the longest
  extent_ends : (e : Extent) (o : Option ZcoSource) → source_at w e.source ≡ o → LiesInside e o →
      e.offset + e.length ≤ longest_source
  extent_ends e None is inside = absurd inside
  extent_ends e (Some source) is inside =
      let most = short_source e.source source is in omega (arith, most, inside)

  extents_fit : (es : List Extent) → AllByRecursion FitsExtent es →
      AllByRecursion (λ e. LiesInside e (source_at w e.source)) es → All ExtentFits (map extent_row es)
  extents_fit [] fits inside = All-nil ExtentFits
  extents_fit (e ∷ es) fits inside =
      All-cons ExtentFits (extent_row e) (map extent_row es)
      (record {
        addr = fits.0.block;
        source = fits.0.source;
        inside = extent_ends e (source_at w e.source) refl inside.0;
      }) (extents_fit es fits.1 inside.1)

  -- an object has few parts
  few_parts : (addr : ℕ) (z : ZcoObject) → thing_at w addr ≡ Some (things.Object z) → parts_of (object_row z) < 2 ^ 22
  few_parts addr z there =
      let few = few_blocks heap w addr z s small.few there in
      let most = small.small in
      omega (
        arith,
        few,
        most,
        length-map z.headers capsule_row,
        length-map z.extents extent_row,
        length-map z.trailers capsule_row,
      )

  -- its numbers fit
  pub object_fits : (addr : ℕ) (z : ZcoObject) → thing_at w addr ≡ Some (things.Object z) → ObjectFits (object_row z)
  object_fits addr z there =
      let valid : IsValidObject z = subst (λ (o : Option Thing). IfSome o IsValidThing) there (served.whole.valid.things addr) in
      let fits : FitsObject z =
      (subst (λ (o : Option Thing). IfSome o (λ thing. IsWord addr × FitsThing thing)) there (served.fits.things addr)).1 in
      let inside = (fits_from w served.whole.fits).inside addr z (ap as_object there) in
      let whole = sum_by-map (λ e. e.length) extent_row z.extents in
      let part = valid.part in
      record {
        headers = capsules_kept z.headers valid.headers fits.headers;
        extents = extents_fit z.extents (recursion_from_All FitsExtent z.extents fits.extents) inside;
        trailers = capsules_kept z.trailers valid.trailers fits.trailers;
        few = few_parts addr z there;
        part = omega (arith, whole, part);
      }

  -- and its blocks keep it
  pub object_kept : (addr : ℕ) (z : ZcoObject) → thing_at w addr ≡ Some (things.Object z) →
      KeepsObject heap.blocks addr (object_row z)
  object_kept addr z there =
      let a = apart addr (things.Object z) s there in
      record { rest = a.rest; stands = a.stands; fits = object_fits addr z there }

own_object : (addr : ℕ) (thing : Thing) → (own_block addr thing).kind ≡ kinds.Object → (z : ZcoObject) × (thing ≡ things.Object z)
own_object addr (things.Object z) is = (z, refl)
own_object addr thing is = absurd cc

-- a block in use of the kind of objects is an object's
pub object_is_at : (heap : Heap) (w : World) (addr : ℕ) → HeapStandsFor heap w → IsReady w →
    IsKind (heap.blocks addr) kinds.Object → IsObjectAt w addr
object_is_at heap w addr s served kind =
    let t = thing_is_at heap w addr kinds.Object s served.whole.valid refl kind in
    let object = own_object addr t.thing t.kind_is in
    record { object = object.0; there = t.there ∙ ap Some object.1 }

-- and where there is none, no object is
pub no_object : (heap : Heap) (w : World) (addr : ℕ) → HeapStandsFor heap w → IsValid w → ¬ IsKind (heap.blocks addr) kinds.Object →
    object_at w addr ≡ None
no_object heap w addr s valid other = by (thing_at w addr) refl
  where
    by : (o : Option Thing) → thing_at w addr ≡ o → as_object o ≡ None
    by (Some (things.Object z)) at = absurd (other (own_in_use heap w addr (things.Object z) s valid at))
    by None at = refl
    by (Some thing) at = refl

-- an object is kept together with the queue of its account, and beside it what may stand behind it before all other things
pub object_beside : (heap : Heap) (w : World) (addr : ℕ) (z : ZcoObject) → HeapStandsFor heap w → IsReady w → IsSmall heap →
    thing_at w addr ≡ Some (things.Object z) → (es rest : Entries) →
    StandAlike (section (thing_entries (ties_of w)) w.things) (object_entries addr (object_row z) ++ (es ++ rest)) →
    KeepsBeside heap addr (object_row z) (tickets_of w.accounts z.account) es
object_beside heap w addr z s served small there es rest alike =
    let ts = tickets_of w.accounts z.account in
    let k = queue_kept z.account s (tickets_kept served) in
    let queue = queue_swap w z.account ts in
    let own = object_entries addr (object_row z) in
    let first : Swaps (own ++ (es ++ rest)) (own ++ (es ++ rest)) own own =
    record { before = []; behind = es ++ rest; was = refl; is = refl } in
    record {
      keeps = record {
        rest = _;
        stands = both_focused first queue (alike.forth heap.blocks (other_entries w) s.blocks);
        fits = object_fits heap w s served small addr z there;
        first = k.first;
        last = k.last;
        tickets_fit = k.fits;
      };
      behind = rest ++ (queue.before ++ queue.behind);
      whole = append_assoc (es ++ rest) queue.before queue.behind ∙ append_assoc es rest (queue.before ++ queue.behind);
    }

-- so it is kept together with the queue
pub object_with_queue : (heap : Heap) (w : World) (addr : ℕ) (z : ZcoObject) → HeapStandsFor heap w → IsReady w → IsSmall heap →
    thing_at w addr ≡ Some (things.Object z) →
    KeepsWithQueue heap addr (object_row z) (tickets_of w.accounts z.account)
object_with_queue heap w addr z s served small there =
    (object_beside heap w addr z s served small there [] (section (thing_entries (ties_of w)) (finite.remove w.things addr))
    (one_first (thing_entries (ties_of w)) w.things addr (things.Object z) there)).keeps
