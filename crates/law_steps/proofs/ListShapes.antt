-- The shapes of the rows of lists.
use Rattle.std.proofs.Common.{◌≡◌, ℕ, ◌+◌, ◌<◌, List, [], ◌∷◌, ◌++◌, false, Some, map, length, get_or, refl, sym, ap, arith, set}
use Rattle.std.specs.FinMap.{entries}
use Rattle.std.specs.List.{insert, remove, sum_by}
use Rattle.std.proofs.Math.Seq.{map-set_same}
use Rattle.std.proofs.lemmas.Bool.{eqb-true}
use Rattle.std.proofs.lemmas.List.Quantifiers.{position-Some}
use Rattle.std.proofs.lemmas.List.Sums.{sum_by-cons, sum_by-insert, sum_by-remove}
use Rattle.std.proofs.lemmas.Simd.{map-map}
use Rattle.sdr_base.specs.declared.kind.Kind.TheVariants as kinds
use Rattle.law_steps.proofs.Alike.{itself}
use Rattle.law_steps.proofs.Shapes.{Shape, on_addr, takes_one, does}
use Rattle.law_steps.proofs.SpotPlaces.{stands_there}
use Rattle.sdr_model.proofs.SumLemmas.{sum_by-map}
use Rattle.law_steps.proofs.ThingChanges.{goes, stays, loses, gains, makes}
use Rattle.law_steps.proofs.ThingLemmas.{list_is}
use Rattle.law_steps.proofs.SpotThere.{spot_there}
use Rattle.sdr_model.specs.ListSteps as list
use Rattle.sdr_model.specs.Reading.{is_reading}
use Rattle.sdr_model.specs.RowMoves.{row_moves, takes, elements_in}
use Rattle.sdr_model.specs.Steps.{Outcome, gave}
use Rattle.sdr_model.specs.Things.{Spot, list_need, element_need, own_block, block_for_element}
use Rattle.sdr_model.specs.World.{World, thing_at, spot_of}
use Rattle.sdr_model.specs.declared.answer.Reply.TheVariants as replies
use Rattle.sdr_model.specs.declared.call.Call.{Call}
use Rattle.sdr_model.specs.declared.call.Call.TheVariants as calls
use Rattle.sdr_model.specs.declared.things.UsedBlock.{UsedBlock}
use Rattle.sdr_model.specs.declared.things.Element.{Element}
use Rattle.sdr_model.specs.declared.things.SdrList.{SdrList}
use Rattle.sdr_model.specs.declared.things.Thing.TheVariants as things

-- an element of no list
pub no_element : Element
no_element = record { block = 0; datum = 0 }

-- the blocks of a list's elements, with one more or one less
module _ (measure : UsedBlock → ℕ) (addr : ℕ) (row : SdrList) where
  abbrev list_sum : List Element → ℕ
  list_sum elements = sum_by measure (own_block addr (things.List row) ∷ map block_for_element elements)

  list_sum-insert : (place : ℕ) (e : Element)
      → list_sum (insert row.elements place e) ≡ list_sum row.elements + measure (block_for_element e)
  list_sum-insert place e =
      omega (
        arith,
        sum_by-cons measure (own_block addr (things.List row)) (map block_for_element (insert row.elements place e)),
        sum_by-cons measure (own_block addr (things.List row)) (map block_for_element row.elements),
        sum_by-map measure block_for_element (insert row.elements place e),
        sum_by-map measure block_for_element row.elements,
        sum_by-insert (λ e. measure (block_for_element e)) row.elements place e,
      )

  list_sum-remove : (place : ℕ) → place < length row.elements
      → list_sum (remove row.elements place) + measure
      (block_for_element (get_or row.elements place no_element)) ≡ list_sum row.elements
  list_sum-remove place within =
      omega (
        arith,
        sum_by-cons measure (own_block addr (things.List row)) (map block_for_element (remove row.elements place)),
        sum_by-cons measure (own_block addr (things.List row)) (map block_for_element row.elements),
        sum_by-map measure block_for_element (remove row.elements place),
        sum_by-map measure block_for_element row.elements,
        sum_by-remove (λ e. measure (block_for_element e)) row.elements place no_element within,
      )

-- the element of a spot stands at its place
pub at_place : (w : World) (element : ℕ) (s : Spot) → spot_of w element ≡ Some s
    → (s.place < length s.row.elements) × ((get_or s.row.elements s.place no_element).block ≡ element)
at_place w element s is =
    let stands = position-Some _ s.row.elements s.place no_element (stands_there element (entries w.things) s is) in
    (stands.0, eqb-true _ _ stands.1)

-- the block of an element at an address
abbrev block_at_addr : ℕ → UsedBlock
block_at_addr addr = record { addr = addr; kind = kinds.Element; bytes = element_need }

module _ {w : World} {o : Outcome} where
  pub make_list : (user : ℕ) → list.MakeList w o user → Shape w (calls.List user) o
  make_list user made =
      takes_one list_need _ made refl (λ at. refl)
      (makes list_need (things.List (record { user = user; elements = [] })) _ refl (λ a. refl) (λ a. refl) (λ limits. tt)
      (λ a. itself) made)

  pub list_destroy : (addr : ℕ) → list.ListDestroy w o addr → Shape w (calls.ListDestroy addr) o
  list_destroy addr h =
      on_addr addr (list.as_list (thing_at w addr)) h (λ row is d.
      does d refl (λ at. ap (λ r. gave (elements_in r ++ addr ∷ [])) is)
      (goes addr (things.List row) (map (λ (e : Element). e.block) row.elements) (list_is _ _ is)
      (map-map (λ (b : UsedBlock). b.addr) block_for_element row.elements) itself d))

  pub set_list_user : (addr user : ℕ) → list.SetListUser w o addr user → Shape w (calls.SetListUser addr user) o
  set_list_user addr user h =
      on_addr addr (list.as_list (thing_at w addr)) h (λ row is d.
      does d refl (λ at. refl)
      (stays addr (things.List row) (things.List (record row { user = user })) (list_is _ _ is) itself d (λ valid. refl)
      (λ valid. tt)))

  -- a list of its own that gains an element
  inserted : {call : Call} → is_reading call ≡ false → ((at : ℕ → ℕ) → row_moves w call at ≡ takes at element_need)
      → (addr : ℕ) (row : SdrList) (place datum : ℕ) → thing_at w addr ≡ Some (things.List row)
      → list.Inserts w o addr row place datum → Shape w call o
  inserted changing moves addr row place datum is made =
      takes_one element_need _ made changing moves
      (gains addr element_need (things.List row)
      (λ a. things.List (record row { elements = insert row.elements place (record { block = a; datum = datum }) }))
      block_at_addr (λ a. replies.At a) is (λ a. itself) (λ a. refl) (λ a. refl) (λ a. refl) made
      (λ a measure. list_sum-insert measure addr row place (record { block = a; datum = datum })) (λ a valid. tt))

  pub insert_at : {call : Call} → is_reading call ≡ false → ((at : ℕ → ℕ) → row_moves w call at ≡ takes at element_need)
      → (addr : ℕ) (place : SdrList → ℕ) (datum : ℕ) → list.InsertAt w o addr place datum → Shape w call o
  insert_at changing moves addr place datum h =
      on_addr addr (list.as_list (thing_at w addr)) h
      (λ row is made. inserted changing moves addr row (place row) datum (list_is _ _ is) made)

  pub insert_beside : {call : Call} → is_reading call ≡ false
      → ((at : ℕ → ℕ) → row_moves w call at ≡ takes at element_need)
      → (element : ℕ) (place : ℕ → ℕ) (datum : ℕ) → list.InsertBeside w o element place datum → Shape w call o
  insert_beside changing moves element place datum h =
      on_addr element (spot_of w element) h
      (λ s is made. inserted changing moves s.list s.row (place s.place) datum
      (spot_there w.things element s is) made)

  pub delete : (element : ℕ) → list.Delete w o element → Shape w (calls.Delete element) o
  delete element h =
      on_addr element (spot_of w element) h (λ s is d.
      let there = at_place w element s is in
      does d refl (λ at. refl)
      (loses s.list (things.List s.row) (things.List (record s.row { elements = remove s.row.elements s.place }))
      (block_at_addr element) (spot_there w.things element s is) itself d
      (λ measure. omega (
        arith,
        list_sum-remove measure s.list s.row s.place there.0,
        ap (λ a. measure (block_at_addr a)) there.1,
      )) (λ valid. tt)))

  pub set_datum : (element datum : ℕ) → list.SetDatum w o element datum → Shape w (calls.SetDatum element datum) o
  set_datum element datum h =
      on_addr element (spot_of w element) h (λ s is d.
      let there = at_place w element s is in
      let same : map block_for_element
      (set s.row.elements s.place (record { block = element; datum = datum })) ≡ map block_for_element s.row.elements =
      map-set_same block_for_element s.row.elements s.place (record { block = element; datum = datum }) no_element
      (ap block_at_addr (sym there.1)) in
      does d refl (λ at. refl)
      (stays s.list (things.List s.row)
      (things.List (record s.row {
        elements =
            set s.row.elements s.place (record { block = element; datum = datum });
      }))
      (spot_there w.things element s is) itself d
      (λ valid. ap (λ bs. own_block s.list (things.List s.row) ∷ bs) same) (λ valid. tt)))
