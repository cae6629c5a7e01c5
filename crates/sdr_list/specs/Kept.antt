-- Lists that are kept among blocks, and places in them.
use Rattle.std.specs.Prelude.{◌≡◌, ◌<◌, ◌^◌, ℕ, slice_get, take, drop, insert, remove, set, Option, Some, None}
use Rattle.sdr_base.specs.Blocks.{Block, Blocks, IsKind}
use Rattle.sdr_base.specs.Lists.{ListRow, KeepsList, addr_of}
use Rattle.sdr_base.specs.Linked.{first_of, last_of}
use Rattle.sdr_base.specs.Stored.{number_at}
use Rattle.sdr_base.specs.declared.kind.Kind.{Kind}
use Rattle.sdr_base.specs.declared.kind.Kind.TheVariants as kinds

-- some list is kept there
pub record SomeList (blocks : Blocks) (list : ℕ) : Type 0 where
  pub row : ListRow
  pub keeps : KeepsList blocks list row

-- where a list's block stands, a list is kept
abbrev pub IsList : Blocks → ℕ → Type 0
IsList blocks list = IsKind (blocks list) kinds.List → SomeList blocks list

-- a place in a list: the list's address, what it has, and the datum of the element there
pub record Spot : Type 0 where
  pub list : ℕ
  pub row : ListRow
  pub place : ℕ
  pub datum : ℕ

-- the list is kept, and has the element at this place
pub record IsSpot (blocks : Blocks) (element : ℕ) (spot : Spot) : Type 0 where
  pub keeps : KeepsList blocks spot.list spot.row
  pub small : spot.list < 2 ^ 64
  pub here : slice_get spot.row.elements spot.place ≡ Some (record { addr = element; datum = spot.datum })

-- some list that is kept has the element
pub record SomeSpot (blocks : Blocks) (element : ℕ) : Type 0 where
  pub spot : Spot
  pub is : IsSpot blocks element spot

-- where an element's block stands, a list has it
abbrev pub IsElement : Blocks → ℕ → Type 0
IsElement blocks element = IsKind (blocks element) kinds.Element → SomeSpot blocks element

-- the address of the element before a place, 0 where there is none
abbrev pub addr_before : ListRow → ℕ → ℕ
addr_before row place = last_of addr_of 0 (take place row.elements)

-- the address of the first element from a place on, 0 where there is none
abbrev pub addr_from : ListRow → ℕ → ℕ
addr_from row place = first_of addr_of 0 (drop place row.elements)

-- the list with a new element at a place
abbrev pub with_element : ListRow → ℕ → ℕ → ℕ → ListRow
with_element row place addr datum =
    record row { elements = insert row.elements place (record { addr = addr; datum = datum }) }

-- the list with another datum in the element at a place
abbrev pub with_datum : ListRow → ℕ → ℕ → ℕ → ListRow
with_datum row place addr datum =
    record row { elements = set row.elements place (record { addr = addr; datum = datum }) }

-- the list without the element at a place
abbrev pub without_element : ListRow → ℕ → ListRow
without_element row place = record row { elements = remove row.elements place }

-- the count, where the kind is that of lists
abbrev pub if_list : Kind → ℕ → ℕ
if_list kinds.List count = count
if_list kind count = 0

-- how many elements the list has that stands there, 0 where none does
abbrev pub elements_in : Option Block → ℕ
elements_in None = 0
elements_in (Some block) = if_list block.kind (number_at 8 block.bytes)
