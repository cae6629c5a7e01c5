-- Elements of lists in blocks.
use Rattle.std.proofs.Common.{◌≡◌, ◌≢◌, ◌∙◌, ◌<◌, ◌==◌, ℕ, List, [], ◌∷◌, Bool, true, false, cond, map, length, get_or, position, Option, None, Some, refl, sym, ap, subst, arith}
use Rattle.std.proofs.lemmas.Option.{slice_get-get_or, slice_get-map}
use Rattle.std.specs.FinMap as finite
use Rattle.std.specs.Option.{option_map, option_or}
use Rattle.std.specs.Prelude.{count_by, slice_get}
use Rattle.step_things.proofs.KindLemmas.{Finds, all_of, block_of_kind, found_all, inner_block, loose_all, loose_block, object_all, or_finds}
use Rattle.step_things.proofs.ListLemmas.{IsSmall, list_kept}
use Rattle.step_things.specs.Answering.{IsReady}
use Rattle.sdr_stands.specs.Rows.{element_row, list_row}
use Rattle.sdr_stands.specs.Standing.{HeapStandsFor}
use Rattle.sdr_base.specs.Blocks.{IsKind}
use Rattle.sdr_base.specs.Objects.{Heap}
use Rattle.sdr_base.specs.declared.kind.Kind.TheVariants as kinds
use Rattle.law_steps.proofs.DistinctLemmas.{count_by-cons, weight}
use Rattle.law_steps.proofs.EditLemmas.{no_position}
use Rattle.law_steps.proofs.ListShapes.{at_place, no_element}
use Rattle.law_steps.proofs.SpotThere.{spot_there}
use Rattle.sdr_list.proofs.KeptLemmas.{element_there}
use Rattle.sdr_list.specs.Kept.{IsSpot}
use Rattle.sdr_model.specs.Things.{Spot, block_among, block_for_element, entry_block, inner_among, inner_blocks, object_blocks, own_block, spot_among, spot_in_thing}
use Rattle.sdr_model.specs.World.{World, block_at, spot_of, thing_at}
use Rattle.sdr_model.specs.declared.things.UsedBlock.{UsedBlock}
use Rattle.sdr_model.specs.declared.things.Element.{Element}
use Rattle.sdr_model.specs.declared.things.Thing.{Thing}
use Rattle.sdr_model.specs.declared.things.Thing.TheVariants as things

-- an element, its list and its place, in the world and in blocks
pub record IsSpotAt (heap : Heap) (w : World) (element : ℕ) : Type 0 where
  pub spot : Spot
  pub datum : ℕ
  pub found : spot_of w element ≡ Some spot
  pub there : thing_at w spot.list ≡ Some (things.List spot.row)
  pub within : spot.place < length spot.row.elements
  pub here : slice_get spot.row.elements spot.place ≡ Some (record { block = element; datum = datum })
  pub keeps : IsSpot heap.blocks element (record { list = spot.list; row = list_row spot.row; place = spot.place; datum = datum })

-- the element that is found is there
pub spot_stands : (heap : Heap) (w : World) (element : ℕ) (spot : Spot) → HeapStandsFor heap w → IsReady w → IsSmall heap
    → spot_of w element ≡ Some spot → IsSpotAt heap w element
spot_stands heap w element spot s served small found =
    let there = spot_there w.things element spot found in
    let place = at_place w element spot found in
    let one = get_or spot.row.elements spot.place no_element in
    let l = list_kept heap w spot.list spot.row s served.fits small there in
    let here : slice_get spot.row.elements spot.place ≡ Some (record { block = element; datum = one.datum }) =
    slice_get-get_or spot.row.elements spot.place no_element place.0
    ∙ ap (λ (b : ℕ). Some (record { block = b; datum = one.datum })) place.1 in
    record {
      spot = spot;
      datum = one.datum;
      found = found;
      there = there;
      within = place.0;
      here = here;
      keeps = record {
        keeps = l.1;
        small = l.0;
        here = slice_get-map element_row spot.row.elements spot.place ∙ ap (option_map element_row) here;
      };
    }

-- where no place is found, no block among these is an element's
none_among : (element : ℕ) (es : List Element) → position (λ e. e.block == element) es ≡ None
    → block_among element (map block_for_element es) ≡ None
none_among element es none = without es (no_position (λ e. e.block == element) es none)
  where
    without : (xs : List Element) → count_by (λ e. e.block == element) xs ≡ 0 → block_among element (map block_for_element xs) ≡ None
    without [] zero = refl
    without (x ∷ xs) zero = step (without xs) (x.block == element) refl
      where
        step : (count_by (λ e. e.block == element) xs ≡ 0 → block_among element (map block_for_element xs) ≡ None) → (b : Bool)
            → (x.block == element) ≡ b
            → block_among element (map block_for_element (x ∷ xs)) ≡ None
        step rest true is = absurd (omega (arith, zero, ap weight is, count_by-cons (λ e. e.block == element) x xs))
        step rest false is =
            ap (λ b. cond b (Some (block_for_element x)) (block_among element (map block_for_element xs))) is
            ∙ rest (omega (arith, zero, count_by-cons (λ e. e.block == element) x xs))

-- a block is no element's
abbrev IsOther : UsedBlock → Type 0
IsOther b = b.kind ≢ kinds.Element

-- where none is found in a thing, no block inside it is an element's
other_inside : (element list : ℕ) (thing : Thing) → spot_in_thing element list (Some thing) ≡ None
    → Finds IsOther (block_among element (inner_blocks thing))
other_inside element list (things.List row) none b is =
    let gone : None ≡ Some b = sym (none_among element row.elements
    (unmapped _ (position (λ e. e.block == element) row.elements) none)) ∙ is in absurd cc
  where
    unmapped : {X Y : Type 0} (f : X → Y) (o : Option X) → option_map f o ≡ None → o ≡ None
    unmapped f None e = refl
    unmapped f (Some x) e = absurd cc
other_inside element list (things.Hash hash) none b is =
    found_all IsOther element (map entry_block hash.entries) (all_of IsOther entry_block (λ e kind. absurd cc) hash.entries) b is
other_inside element list (things.Object z) none b is =
    found_all IsOther element (object_blocks z) (object_all IsOther z (λ c kind. absurd cc) (λ e kind. absurd cc)) b is
other_inside element list thing none b is = absurd cc

-- and so inside all things
other_among : (element : ℕ) (es : List (ℕ × Thing)) → spot_among element es ≡ None → Finds IsOther (inner_among element es)
other_among element [] none b is = absurd cc
other_among element (e ∷ es) none b is =
    let parts = neither (spot_in_thing element e.0 (Some e.1)) (spot_among element es) none in
    or_finds IsOther (block_among element (inner_blocks e.1)) (inner_among element es)
    (other_inside element e.0 e.1 parts.0) (other_among element es parts.1) b is
  where
    neither : (o r : Option Spot) → option_or o r ≡ None → (o ≡ None) × (r ≡ None)
    neither None r is = (refl, is)
    neither (Some x) r is = absurd cc

-- a block of the kind of elements is an element's of a list
spot_of_block : (w : World) (element : ℕ) (b : UsedBlock) → block_at w element ≡ Some b → b.kind ≡ kinds.Element
    → spot_of w element ≢ None
spot_of_block w element b is kind none = by (thing_at w element) is
  where
    others : Finds IsOther (inner_block w element)
    others =
        or_finds IsOther (inner_among element (finite.entries w.things)) (loose_block w element)
        (other_among element (finite.entries w.things) none) (loose_all IsOther w element (λ n e. absurd cc) (λ t e. absurd cc))

    own : (thing : Thing) → (own_block element thing).kind ≢ kinds.Element
    own (things.Raw bytes) e = absurd cc
    own (things.Text text) e = absurd cc
    own (things.List row) e = absurd cc
    own (things.Table table) e = absurd cc
    own (things.Hash hash) e = absurd cc
    own (things.Source source) e = absurd cc
    own (things.Object z) e = absurd cc

    by : (o : Option Thing) → option_or (option_map (own_block element) o) (inner_block w element) ≡ Some b → ⊥
    by None here = others b here kind
    by (Some thing) here =
        let same : own_block element thing ≡ b = cc in
        own thing (ap (λ (x : UsedBlock). x.kind) same ∙ kind)

-- a block in use of the kind of elements is an element's
pub spot_is_at : (heap : Heap) (w : World) (element : ℕ) → HeapStandsFor heap w → IsReady w → IsSmall heap
    → IsKind (heap.blocks element) kinds.Element → IsSpotAt heap w element
spot_is_at heap w element s served small kind = by (spot_of w element) refl
  where
    by : (o : Option Spot) → spot_of w element ≡ o → IsSpotAt heap w element
    by None none =
        let b = block_of_kind heap w element kinds.Element s served.whole.valid kind in
        absurd (spot_of_block w element b.0 b.1 b.2 none)
    by (Some spot) found = spot_stands heap w element spot s served small found

-- and where there is none, no list has it
pub no_spot : (heap : Heap) (w : World) (element : ℕ) → HeapStandsFor heap w → IsReady w → IsSmall heap
    → ¬ IsKind (heap.blocks element) kinds.Element → spot_of w element ≡ None
no_spot heap w element s served small other = by (spot_of w element) refl
  where
    by : (o : Option Spot) → spot_of w element ≡ o → spot_of w element ≡ None
    by None none = none
    by (Some spot) found =
        let at = spot_stands heap w element spot s served small found in
        absurd (other (subst (λ o. IsKind o kinds.Element) (sym (element_there at.keeps)) refl))
