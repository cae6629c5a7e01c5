-- What the calls on the catalogue come to, and when they are refused.
use Rattle.std.specs.Prelude.{◌≡◌, ℕ, List, length, take, find, slice_get, Option, Some, None}
use Rattle.sdr_base.specs.Catalogue.{NameRow}
use Rattle.sdr_base.specs.Objects.{Heap, OnlyFault}
use Rattle.sdr_base.specs.declared.refusal.Refusal.TheVariants as refusals
use Rattle.sdr_base.specs.declared.stop.Stop.{Stop}
use Rattle.sdr_base.specs.declared.stop.Stop.TheVariants.{Refused}
use Rattle.sdr_cat.specs.Kept.{KeepsNames}
use Rattle.sdr_cat.specs.Names.{IsBadName, IsName, is_named}

-- the type and the object of an entry
abbrev pub row_told : Option NameRow → Option (ℕ × ℕ)
row_told None = None
row_told (Some row) = Some (row.type_number, row.object)

-- the name was found in whichever catalogue is kept
pub record FindsName (name : List ℕ) (heap : Heap) (value : ℕ × ℕ) : Type 0 where
  pub is : IsName name
  pub tells : (names : List NameRow) → KeepsNames heap names → row_told (find (is_named name) names) ≡ Some value

-- the name isn't in whichever catalogue is kept
pub record LacksName (name : List ℕ) (heap : Heap) : Type 0 where
  pub is : IsName name
  pub lacks : (names : List NameRow) → KeepsNames heap names → find (is_named name) names ≡ None

-- why a name isn't found: for its length, or it isn't there; or a fault
abbrev pub FindStops : List ℕ → Heap → Stop → Type 0
FindStops name heap (Refused refusals.NotFound) = LacksName name heap
FindStops name heap (Refused (refusals.BadLength count most)) = IsBadName name (Refused (refusals.BadLength count most))
FindStops name heap stop = OnlyFault stop

-- an entry as it is read: how many bytes its name has, its type and its object, and the name in the first bytes of a buffer
pub record IsRead (row : NameRow) (value : ℕ × ℕ × ℕ) (into : List ℕ) : Type 0 where
  pub length : value.0 ≡ length row.name
  pub type_number : value.1 ≡ row.type_number
  pub object : value.2 ≡ row.object
  pub name : take value.0 into ≡ row.name

-- the entry at a place was read, of whichever catalogue is kept
pub record HasEntry (place : ℕ) (names : List NameRow) (value : ℕ × ℕ × ℕ) (into : List ℕ) : Type 0 where
  pub row : NameRow
  pub here : slice_get names place ≡ Some row
  pub read : IsRead row value into

-- so it was of whichever catalogue is kept
pub record ReadsEntry (place : ℕ) (heap : Heap) (value : ℕ × ℕ × ℕ) (into : List ℕ) : Type 0 where
  pub has : (names : List NameRow) → KeepsNames heap names → HasEntry place names value into

-- whichever catalogue is kept has no entry at the place
pub record LacksEntry (place : ℕ) (heap : Heap) : Type 0 where
  pub lacks : (names : List NameRow) → KeepsNames heap names → slice_get names place ≡ None

-- why no entry is given: there is none at the place; or a fault
abbrev pub EntryStops : ℕ → Heap → Stop → Type 0
EntryStops place heap (Refused refusals.NotFound) = LacksEntry place heap
EntryStops place heap stop = OnlyFault stop
