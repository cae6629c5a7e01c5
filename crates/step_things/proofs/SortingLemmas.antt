-- The keys in blocks are those of the world.
use Rattle.std.proofs.Common.{◌≡◌, ◌∙◌, ℕ, [], not, Option, None, Some, refl, sym, ap, subst, position}
use Rattle.std.specs.Ordering.{is_eq, is_gt}
use Rattle.step_things.proofs.AddressLemmas.{found_addr_is, place_behind_is}
use Rattle.step_things.proofs.RawLemmas.{IsRawAt, no_raw, raw_is_at}
use Rattle.step_things.specs.Sorting.{Sorts}
use Rattle.sdr_stands.specs.Rows.{list_row}
use Rattle.sdr_stands.specs.Standing.{HeapStandsFor}
use Rattle.sdr_stands.specs.Ties.{ties_of}
use Rattle.sdr_base.specs.Blocks as base
use Rattle.sdr_base.specs.Blocks.{IsKind}
use Rattle.sdr_base.specs.Objects.{Heap}
use Rattle.sdr_base.specs.declared.kind.Kind.{Kind}
use Rattle.sdr_base.specs.declared.kind.Kind.TheVariants as kinds
use Rattle.sdr_list.proofs.KeyLemmas.{key-raw}
use Rattle.sdr_list.specs.Orders as blocks
use Rattle.sdr_list.specs.Orders.{if_raw, key_in}
use Rattle.sdr_list.specs.Preorders.{key_order}
use Rattle.sdr_list.specs.declared.orders.ListKeys.{ListKeys as Order}
use Rattle.sdr_model.specs.ListSteps as steps
use Rattle.sdr_model.specs.ListSteps.{KeyOrder, sort_bytes, compare_keys, equal_addr, ordered_place, sort_key}
use Rattle.sdr_model.specs.Valid.{IsValid}
use Rattle.sdr_model.specs.World.{World, as_raw}
use Rattle.sdr_model.specs.declared.keys.Keys.{Keys}
use Rattle.sdr_model.specs.declared.keys.Keys.TheVariants as keys
use Rattle.sdr_model.specs.declared.things.SdrList.{SdrList}

-- the order that is kept by is the machine's
pub order_is : (by : Keys) (order : Order) → Sorts by order → key_order order ≡ compare_keys by
order_is keys.ByBytes order is = ap key_order is
order_is keys.ByLength order is = ap key_order is

-- the key of a datum
pub key_is : (heap : Heap) (w : World) → HeapStandsFor heap w → IsValid w → (datum : ℕ)
    → blocks.sort_key heap.blocks datum ≡ sort_key w datum
key_is heap w s valid datum = by (heap.blocks datum) refl
  where
    raw : IsRawAt heap w datum → blocks.sort_key heap.blocks datum ≡ sort_key w datum
    raw r = ap key_in r.block ∙ key-raw ((ties_of w).named_by datum) r.bytes ∙ sym (ap (λ o. sort_bytes (as_raw o)) r.there)

    other : ¬ IsKind (heap.blocks datum) kinds.Raw → key_in (heap.blocks datum) ≡ []
        → blocks.sort_key heap.blocks datum ≡ sort_key w datum
    other not none = none ∙ sym (ap sort_bytes (no_raw heap w datum s valid not))

    of_kind : (block : base.Block) (kind : Kind) → heap.blocks datum ≡ Some block → block.kind ≡ kind
        → blocks.sort_key heap.blocks datum ≡ sort_key w datum
    of_kind block kinds.Raw here is = raw (raw_is_at heap w datum s valid (subst (λ f. IsKind f kinds.Raw) (sym here) is))
    of_kind block kind here is =
        other (λ k. let same : block.kind ≡ kinds.Raw = subst (λ f. IsKind f kinds.Raw) here k in absurd
        (let no : kind ≡ kinds.Raw = sym is ∙ same in cc))
        (ap key_in here ∙ ap (λ (k : Kind). if_raw k block.bytes) is)

    by : (o : Option base.Block) → heap.blocks datum ≡ o → blocks.sort_key heap.blocks datum ≡ sort_key w datum
    by None here = other (λ k. subst (λ f. IsKind f kinds.Raw) here k) (ap key_in here)
    by (Some block) here = of_kind block block.kind here refl

-- the place of a new element in order
pub ordered_place_is : (heap : Heap) (w : World) (order : KeyOrder) (datum : ℕ) (row : SdrList) → HeapStandsFor heap w → IsValid w
    → blocks.ordered_place order heap.blocks datum (list_row row) ≡ ordered_place w order datum row
ordered_place_is heap w order datum row s valid =
    let key = key_is heap w s valid in
    place_behind_is (λ other. not (is_gt (order (blocks.sort_key heap.blocks other) (blocks.sort_key heap.blocks datum))))
    row.elements
    ∙ (λ i. steps.place_behind (λ other. not (is_gt (order (key other i) (key datum i)))) row.elements)

-- the first element of an equal key
pub equal_addr_is : (heap : Heap) (w : World) (order : KeyOrder) (datum : ℕ) (row : SdrList) → HeapStandsFor heap w → IsValid w
    → blocks.equal_addr order heap.blocks datum (list_row row) ≡ equal_addr w order datum row
equal_addr_is heap w order datum row s valid =
    let key = key_is heap w s valid in
    found_addr_is (λ other. is_eq (order (blocks.sort_key heap.blocks other) (blocks.sort_key heap.blocks datum))) row.elements
    ∙ (λ i. steps.found_addr row.elements (position (λ e. is_eq (order (key e.datum i) (key datum i))) row.elements))
