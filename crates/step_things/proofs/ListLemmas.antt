-- Lists in blocks.
use Rattle.std.proofs.Common.{◌≡◌, ◌∙◌, ◌≤◌, ◌*◌, ◌+◌, ◌++◌, ℕ, map, length, Option, None, Some, refl, sym, ap, subst, arith}
use Rattle.std.specs.Prelude.{All, IfSome}
use Rattle.std.proofs.lemmas.List.{length-append, length-map}
use Rattle.std.proofs.lemmas.List.Elements.{All-map}
use Rattle.step_things.proofs.KindLemmas.{own_in_use, thing_is_at}
use Rattle.step_things.specs.Answering.{IsReady}
use Rattle.sdr_stands.proofs.ChangeLemmas.{apart}
use Rattle.sdr_stands.specs.Rows.{element_row, list_row}
use Rattle.sdr_stands.specs.Standing.{HeapStandsFor}
use Rattle.sdr_base.proofs.LinkedLemmas.{length-linked}
use Rattle.sdr_base.specs.Blocks as base
use Rattle.sdr_base.specs.Blocks.{IsKind}
use Rattle.sdr_base.specs.Entries.{Among, Few}
use Rattle.sdr_base.specs.Lists.{ElementFits, KeepsList, addr_of, element_block, elements_between, list_entries}
use Rattle.sdr_base.specs.Objects.{Heap}
use Rattle.sdr_base.specs.Stored.{number_at}
use Rattle.sdr_base.specs.declared.kind.Kind.{Kind}
use Rattle.sdr_base.specs.declared.kind.Kind.TheVariants as kinds
use Rattle.sdr_base.specs.declared.line.TheConstants.{LINE, MOST_LINES}
use Rattle.sdr_list.proofs.KeptLemmas.{elements_are}
use Rattle.sdr_list.specs.Kept.{IsList, elements_in, if_list}
use Rattle.sdr_model.specs.Fields.{FitsElement, FitsFields, FitsThing, IsWord}
use Rattle.sdr_model.specs.ListSteps.{as_list}
use Rattle.sdr_model.specs.RowMoves as moves
use Rattle.sdr_model.specs.Things.{own_block}
use Rattle.sdr_model.specs.Valid.{IsValid}
use Rattle.sdr_model.specs.World.{World, thing_at}
use Rattle.sdr_model.specs.declared.things.Element.{Element}
use Rattle.sdr_model.specs.declared.things.SdrList.{SdrList}
use Rattle.sdr_model.specs.declared.things.Thing.{Thing}
use Rattle.sdr_model.specs.declared.things.Thing.TheVariants as things

-- a heap region of no more bytes than are allowed, with few blocks in use
pub record IsSmall (heap : Heap) : Type 0 where
  pub few : Few heap.size heap.blocks
  pub small : heap.size ≤ LINE * MOST_LINES

-- a list, and its blocks
pub record IsListAt (heap : Heap) (w : World) (list : ℕ) : Type 0 where
  pub row : SdrList
  pub there : thing_at w list ≡ Some (things.List row)
  pub keeps : KeepsList heap.blocks list (list_row row)

-- the elements of a list are few
pub few_elements : (heap : Heap) (list : ℕ) (row : SdrList) → IsSmall heap
    → (a : Among heap.blocks (list_entries list (list_row row)))
    → 16 * (1 + length row.elements) ≤ heap.size
few_elements heap list row small a =
    let between = elements_between list 0 0 (map element_row row.elements) in
    let all = small.few.few (list_entries list (list_row row) ++ a.rest) a.stands in
    let split = length-append between a.rest in
    let chain = length-linked addr_of (element_block list) 0 0 (map element_row row.elements) in
    let same = length-map row.elements element_row in
    omega (arith, all, split, chain, same)

fits_row : (row : SdrList) → All FitsElement row.elements → All ElementFits (map element_row row.elements)
fits_row row all =
    All-map ElementFits element_row row.elements (λ k d l. let f = all k d l in record { addr = f.block; datum = f.datum })

-- the blocks of a list of the world keep it
pub list_kept : (heap : Heap) (w : World) (list : ℕ) (row : SdrList) → HeapStandsFor heap w → FitsFields w → IsSmall heap
    → thing_at w list ≡ Some (things.List row) → IsWord list × KeepsList heap.blocks list (list_row row)
list_kept heap w list row s fits small there =
    let a = apart list (things.List row) s there in
    let few = few_elements heap list row small a in
    let fit = subst (λ (o : Option Thing). IfSome o (λ thing. IsWord list × FitsThing thing)) there (fits.things list) in (
      fit.0,
      record {
        rest = a.rest;
        stands = a.stands;
        few = omega (arith, few, small.small, length-map row.elements element_row);
        fits = record { user = fit.1.0; elements = fits_row row fit.1.1 };
      },
    )

own_list : (addr : ℕ) (thing : Thing) → (own_block addr thing).kind ≡ kinds.List → (row : SdrList) × (thing ≡ things.List row)
own_list addr (things.List row) is = (row, refl)
own_list addr thing is = absurd cc

-- a block in use of the kind of lists is a list's
pub list_is_at : (heap : Heap) (w : World) (list : ℕ) → HeapStandsFor heap w → IsReady w → IsSmall heap
    → IsKind (heap.blocks list) kinds.List
    → IsListAt heap w list
list_is_at heap w list s served small kind =
    let t = thing_is_at heap w list kinds.List s served.whole.valid refl kind in
    let row = own_list list t.thing t.kind_is in
    let there = t.there ∙ ap Some row.1 in
    record { row = row.0; there = there; keeps = (list_kept heap w list row.0 s served.fits small there).1 }

-- and where there is none, no list is
pub no_list : (heap : Heap) (w : World) (list : ℕ) → HeapStandsFor heap w → IsValid w → ¬ IsKind (heap.blocks list) kinds.List
    → as_list (thing_at w list) ≡ None
no_list heap w list s valid other = by (thing_at w list) refl
  where
    by : (o : Option Thing) → thing_at w list ≡ o → as_list o ≡ None
    by (Some (things.List row)) at = absurd (other (own_in_use heap w list (things.List row) s valid at))
    by None at = refl
    by (Some thing) at = refl

-- as many elements as its block tells are the world's at least
pub elements_told : (heap : Heap) (w : World) (list : ℕ) → HeapStandsFor heap w → IsReady w → IsSmall heap
    → elements_in (heap.blocks list) ≤ length (moves.elements_in (as_list (thing_at w list)))
elements_told heap w list s served small = by (heap.blocks list) refl
  where
    of_kind : (block : base.Block) (kind : Kind) → heap.blocks list ≡ Some block → block.kind ≡ kind
        → elements_in (Some block) ≤ length (moves.elements_in (as_list (thing_at w list)))
    of_kind block kinds.List here is =
        let l = list_is_at heap w list s served small (subst (λ f. IsKind f kinds.List) (sym here) is) in
        let told : elements_in (Some block) ≡ length (map element_row l.row.elements) = ap elements_in (sym here) ∙ elements_are
        l.keeps in
        let same : length (moves.elements_in (as_list (thing_at w list))) ≡ length (map (λ (e : Element). e.block) l.row.elements)
        =
        ap (λ o. length (moves.elements_in (as_list o))) l.there in
        omega (arith, told, same, length-map l.row.elements element_row, length-map l.row.elements (λ (e : Element). e.block))
    of_kind block kind here is =
        let none : elements_in (Some block) ≡ if_list kind (number_at 8 block.bytes) = ap
        (λ (k : Kind). if_list k (number_at 8 block.bytes)) is in
        omega (arith, none)

    by : (o : Option base.Block) → heap.blocks list ≡ o → elements_in o ≤ length (moves.elements_in (as_list (thing_at w list)))
    by None here = omega (arith)
    by (Some block) here = of_kind block block.kind here refl

-- where a list is kept, its elements are few
pub room_for_list : (heap : Heap) (list : ℕ) → Few heap.size heap.blocks → IsList heap.blocks list
    → 16 * elements_in (heap.blocks list) ≤ heap.size
room_for_list heap list few kept = by (heap.blocks list) refl
  where
    of_kind : (block : base.Block) (kind : Kind) → heap.blocks list ≡ Some block → block.kind ≡ kind
        → 16 * elements_in (Some block) ≤ heap.size
    of_kind block kinds.List here is =
        let some = kept (subst (λ f. IsKind f kinds.List) (sym here) is) in
        let keeps = some.keeps in
        let between = elements_between list 0 0 some.row.elements in
        let all = few.few (list_entries list some.row ++ keeps.rest) keeps.stands in
        let told : elements_in (Some block) ≡ length some.row.elements = ap elements_in (sym here) ∙ elements_are keeps in
        omega (
          arith,
          all,
          told,
          length-append between keeps.rest,
          length-linked addr_of (element_block list) 0 0
              some.row.elements,
        )
    of_kind block kind here is =
        let none : elements_in (Some block) ≡ if_list kind (number_at 8 block.bytes) = ap
        (λ (k : Kind). if_list k (number_at 8 block.bytes)) is in
        omega (arith, none)

    by : (o : Option base.Block) → heap.blocks list ≡ o → 16 * elements_in o ≤ heap.size
    by None here = omega (arith)
    by (Some block) here = of_kind block block.kind here refl
