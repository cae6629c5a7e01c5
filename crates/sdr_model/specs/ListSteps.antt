-- The steps of lists.
use Rattle.std.specs.Prelude.{ℕ, ◌+◌, ◌-◌, ◌==◌, Bool, not, ◌&&◌, List, [], ◌∷◌, ◌++◌, length, map, take, slice_get, insert, remove, set, Option, None, Some, position, if◌then◌else◌}
use Rattle.std.specs.Cmp.Lexicographic.{slice_cmp}
use Rattle.std.specs.Ordering.{nat_cmp, is_gt, is_eq}
use Rattle.std.specs.declared.cmp.Ordering.{Ordering}
use Rattle.sdr_model.specs.Limits.{longest_sort_key}
use Rattle.sdr_model.specs.Steps.{Outcome, ReadsBytes, Does, CreatesThing, Takes, On, gave, with_thing, without_thing}
use Rattle.sdr_model.specs.Things.{Spot, list_need, element_need}
use Rattle.sdr_model.specs.World.{World, thing_at, as_raw, spot_of}
use Rattle.sdr_model.specs.declared.answer.Reply.TheVariants as replies
use Rattle.sdr_model.specs.declared.keys.Keys.{Keys}
use Rattle.sdr_model.specs.declared.keys.Keys.TheVariants as keys
use Rattle.sdr_model.specs.declared.things.Element.{Element}
use Rattle.sdr_model.specs.declared.things.SdrList.{SdrList}
use Rattle.sdr_model.specs.declared.things.Thing.{Thing}
use Rattle.sdr_model.specs.declared.things.Thing.TheVariants as things

-- the list, where the thing is one
abbrev pub as_list : Option Thing → Option SdrList
as_list (Some (things.List row)) = Some row
as_list thing = None

-- the address of an element, 0 where there is none
abbrev pub element_addr_or_zero : Option Element → ℕ
element_addr_or_zero None = 0
element_addr_or_zero (Some e) = e.block

-- the address of the element at a place, 0 where there is none
abbrev pub element_addr : List Element → ℕ → ℕ
element_addr elements place = element_addr_or_zero (slice_get elements place)

-- the key of a list's comparison: the first bytes of the raw object that the data names, else none
abbrev pub sort_bytes : Option (List ℕ) → List ℕ
sort_bytes None = []
sort_bytes (Some bytes) = take longest_sort_key bytes

-- the key that a datum is compared by
abbrev pub sort_key : World → ℕ → List ℕ
sort_key w datum = sort_bytes (as_raw (thing_at w datum))

-- an order of keys: how two of them compare
abbrev pub KeyOrder : Type 0
KeyOrder = List ℕ → List ℕ → Ordering

-- the two orders that a script may name: by the bytes, and by how many they are
abbrev pub compare_keys : Keys → KeyOrder
compare_keys keys.ByBytes a b = slice_cmp nat_cmp a b
compare_keys keys.ByLength a b = nat_cmp (length a) (length b)

-- behind the last of these data that passes a test; the front where none does
abbrev pub place_behind : (ℕ → Bool) → List Element → ℕ
place_behind test [] = 0
place_behind test (e ∷ es) =
    let place = place_behind test es in
    if place == 0 && not (test e.datum) then 0 else place + 1

-- a new element of this data stands at a place of the list
abbrev pub Inserts : World → Outcome → ℕ → SdrList → ℕ → ℕ → Type 0
Inserts w o list row place datum =
    Takes w o element_need
    (λ addr. with_thing w list (things.List (record row { elements = insert row.elements place (record { block = addr; datum = datum }) })))
    (λ addr. replies.At addr)

-- where a new element goes, in a list
abbrev pub InsertAt : World → Outcome → ℕ → (SdrList → ℕ) → ℕ → Type 0
InsertAt w o list place datum = On w o list (as_list (thing_at w list)) (λ row. Inserts w o list row (place row) datum)

-- where a new element goes, beside another
abbrev pub InsertBeside : World → Outcome → ℕ → (ℕ → ℕ) → ℕ → Type 0
InsertBeside w o element place datum = On w o element (spot_of w element) (λ s. Inserts w o s.list s.row (place s.place) datum)

-- the first element whose key is equal, 0 where none is
abbrev pub found_addr : List Element → Option ℕ → ℕ
found_addr elements None = 0
found_addr elements (Some place) = element_addr elements place

-- a list without elements is made, with the user's number
abbrev pub MakeList : World → Outcome → ℕ → Type 0
MakeList w o user = CreatesThing w o list_need (things.List (record { user = user; elements = [] }))

-- the list goes with its elements, which are given back in order before it
abbrev pub ListDestroy : World → Outcome → ℕ → Type 0
ListDestroy w o list = On w o list (as_list (thing_at w list)) (λ row.
    Does o (gave (map (λ e. e.block) row.elements ++ list ∷ [])) (without_thing w list) replies.Done)

-- a number is read off the list
abbrev pub ReadsList : World → Outcome → ℕ → (SdrList → ℕ) → Type 0
ReadsList w o list of = On w o list (as_list (thing_at w list)) (λ row. ReadsBytes w o [] (replies.Value (of row)))

-- an element's address is read off the list
abbrev pub FindsInList : World → Outcome → ℕ → (SdrList → ℕ) → Type 0
FindsInList w o list of = On w o list (as_list (thing_at w list)) (λ row. ReadsBytes w o [] (replies.At (of row)))

-- the user's number of the list is set
abbrev pub SetListUser : World → Outcome → ℕ → ℕ → Type 0
SetListUser w o list user = On w o list (as_list (thing_at w list)) (λ row.
    Does o [] (with_thing w list (things.List (record row { user = user }))) replies.Done)

-- the element goes out of its list
abbrev pub Delete : World → Outcome → ℕ → Type 0
Delete w o element = On w o element (spot_of w element) (λ s.
    Does o (gave (element ∷ [])) (with_thing w s.list (things.List (record s.row { elements = remove s.row.elements s.place }))) replies.Done)

-- an element's address is read off the place of another
abbrev pub FindsBeside : World → Outcome → ℕ → (Spot → ℕ) → Type 0
FindsBeside w o element of = On w o element (spot_of w element) (λ s. ReadsBytes w o [] (replies.At (of s)))

-- the data of an element, 0 where there is none
abbrev pub datum_of : Option Element → ℕ
datum_of None = 0
datum_of (Some e) = e.datum

-- the data at a place, 0 where there is none
abbrev pub datum_at : List Element → ℕ → ℕ
datum_at elements place = datum_of (slice_get elements place)

-- the element's data is given
abbrev pub Datum : World → Outcome → ℕ → Type 0
Datum w o element = On w o element (spot_of w element) (λ s. ReadsBytes w o [] (replies.Value (datum_at s.row.elements s.place)))

-- the element's data is set
abbrev pub SetDatum : World → Outcome → ℕ → ℕ → Type 0
SetDatum w o element datum = On w o element (spot_of w element) (λ s.
    Does o [] (with_thing w s.list (things.List (record s.row { elements = set s.row.elements s.place (record { block = element; datum = datum }) }))) replies.Done)

-- where a new element goes in order: behind the last one whose key is less or equal
abbrev pub ordered_place : World → KeyOrder → ℕ → SdrList → ℕ
ordered_place w order datum row = place_behind (λ other. not (is_gt (order (sort_key w other) (sort_key w datum)))) row.elements

-- the address of the first element with an equal key, 0 where there is none
abbrev pub equal_addr : World → KeyOrder → ℕ → SdrList → ℕ
equal_addr w order datum row =
    found_addr row.elements (position (λ e. is_eq (order (sort_key w e.datum) (sort_key w datum))) row.elements)

-- the address of the element before a place, 0 at the front
abbrev pub addr_before : Spot → ℕ
addr_before s = if s.place == 0 then 0 else element_addr s.row.elements (s.place - 1)

-- the address of the last element, 0 where there is none
abbrev pub last_addr : List Element → ℕ
last_addr elements = element_addr elements (length elements - 1)
