-- The list that the name of a load finds.
use Rattle.std.proofs.Common.{◌≡◌, ◌∙◌, ℕ, List, [], Option, None, Some, false, length, refl, sym, ap}
use Rattle.std.specs.Option.{option_map, option_map_or}
use Rattle.run_load.specs.Asking.{IsAskable}
use Rattle.run_load.specs.Listed.{bytes_named, elements_at, list_at, load_object}
use Rattle.run_load.specs.Reading.{HasList}
use Rattle.run_load.specs.Summing.{load_list}
use Rattle.run_load.specs.declared.summary.ListRead.{ListRead}
use Rattle.sdr_machine.specs.Serving.{Brings, RollsBack}
use Rattle.sdr_machine.specs.Standing.{GroundState}
use Rattle.sdr_model.specs.World.{World}
use Rattle.sdr_model.specs.declared.things.Element.{Element}
use Rattle.sdr_model.specs.declared.things.SdrList.{SdrList}
use Rattle.sdr_station.specs.Grounded.{Grounded, StandsInMemory, StandsSome}

-- a list without elements
abbrev pub no_elements : ListRead
no_elements = record { elements = 0; bytes = 0 }

-- what a list of these elements is in a world
abbrev listed : World → List Element → ListRead
listed w elements = record { elements = length elements; bytes = bytes_named w elements }

-- where the name finds nothing
pub no_object : (w : World) → load_object w ≡ None → no_elements ≡ load_list w
no_object w none = sym (ap (λ (o : Option ℕ). listed w (option_map_or (elements_at w) o [])) none)

-- where what it finds is no list, as was told of a world that shows others
pub no_list : (w w' : World) (object : ℕ) → load_object w ≡ Some object → w' ≡ record w { shown = w'.shown }
    → option_map (λ (row : SdrList). length row.elements) (list_at w' object) ≡ None → no_elements ≡ load_list w
no_list w w' object found same none =
    sym (ap (λ (o : Option ℕ). listed w (option_map_or (elements_at w) o [])) found
    ∙ ap (listed w) (by (list_at w object) (ap (λ (x : World). option_map (λ (row : SdrList). length row.elements) (list_at x object)) (sym same) ∙ none)))
  where
    by : (o : Option SdrList) → option_map (λ (row : SdrList). length row.elements) o ≡ None → option_map_or (λ (row : SdrList). row.elements) o [] ≡ []
    by None is = refl
    by (Some row) is = cc

-- where a count of elements is told, there is a list of so many
pub list_there : (w : World) (object count : ℕ) → option_map (λ (row : SdrList). length row.elements) (list_at w object) ≡ Some count → HasList object count w
list_there w object count is = by (list_at w object) refl is
  where
    by : (o : Option SdrList) → list_at w object ≡ o → option_map (λ (row : SdrList). length row.elements) o ≡ Some count → HasList object count w
    by None at is = cc
    by (Some row) at is = record { row = row; there = at; long = cc }

-- and its elements and bytes are those of the list that the name finds, as they were read of a world that shows others
pub list_read : (w w' : World) (object count bytes : ℕ) → load_object w ≡ Some object → w' ≡ record w { shown = w'.shown } → HasList object count w'
    → bytes ≡ bytes_named w' (elements_at w' object) → record { elements = count; bytes = bytes } ≡ load_list w
list_read w w' object count bytes found same has is =
    let long : length (elements_at w' object) ≡ count = ap (λ (o : Option SdrList). length (option_map_or (λ (row : SdrList). row.elements) o [])) has.there ∙ has.long in
    sym (ap (λ (o : Option ℕ). listed w (option_map_or (elements_at w) o [])) found
    ∙ ap (λ (x : World). listed x (elements_at x object)) (sym same)
    ∙ ap (λ (n : ℕ). record { elements = n; bytes = bytes_named w' (elements_at w' object) }) long
    ∙ ap (λ (n : ℕ). record { elements = count; bytes = n }) (sym is))

-- a heap that was rolled back can be asked
pub asks_back : {D M : Type 0} (old new : Grounded D M) → StandsSome old → Brings StandsInMemory old new RollsBack → new.stopped ≡ false
    → new.heap.cells.touched ≡ [] → IsAskable new
asks_back old new some brings going none =
    let s = brings.each some.for some.holds in record { stands = record { for = s.for; holds = s.holds }; going = going; untouched = none }

-- and has the list of the state before the transaction
pub list_back : {D M : Type 0} (old new : Grounded D M) (list : ListRead) → Brings StandsInMemory old new RollsBack
    → ((v : GroundState) → StandsInMemory new v → list ≡ load_list v.now.world) → (v : GroundState) → StandsInMemory old v → list ≡ load_list v.before.world
list_back old new list brings is v at =
    let s = brings.each v at in is s.for s.holds ∙ ap (λ t. load_list t.world) s.tells.1
