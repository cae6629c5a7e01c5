-- The list that a load leaves in a world: the one that the name `load` finds.
use Rattle.std.specs.Prelude.{ℕ, List, [], Option, codes, length, sum_by}
use Rattle.std.specs.Option.{option_map, option_map_or}
use Rattle.sdr_model.specs.ListSteps.{as_list}
use Rattle.sdr_model.specs.Names.{name_of}
use Rattle.sdr_model.specs.World.{World, as_raw, thing_at}
use Rattle.sdr_model.specs.declared.name.Name.{Name}
use Rattle.sdr_model.specs.declared.things.Element.{Element}
use Rattle.sdr_model.specs.declared.things.SdrList.{SdrList}

-- the name under which a load finds its list
abbrev pub load_name : List ℕ
load_name = codes "load"

-- the object that this name finds, if it finds one
abbrev pub load_object : World → Option ℕ
load_object w = option_map (λ (n : Name). n.object) (name_of w.names load_name)

-- the list at an address, if there is one
abbrev pub list_at : World → ℕ → Option SdrList
list_at w addr = as_list (thing_at w addr)

-- the elements of the list at an address, none where there is no list
abbrev pub elements_at : World → ℕ → List Element
elements_at w addr = option_map_or (λ (row : SdrList). row.elements) (list_at w addr) []

-- how many bytes the raw object at an address has, 0 where there is none
abbrev pub raw_bytes_at : World → ℕ → ℕ
raw_bytes_at w addr = option_map_or length (as_raw (thing_at w addr)) 0

-- how many bytes the raw objects have together that the data of these elements name
abbrev pub bytes_named : World → List Element → ℕ
bytes_named w elements = sum_by (λ (e : Element). raw_bytes_at w e.datum) elements

-- the elements of the list that the name `load` finds, none where it finds no list
abbrev pub load_elements : World → List Element
load_elements w = option_map_or (elements_at w) (load_object w) []
