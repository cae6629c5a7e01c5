-- How the catalogue changes, and why it doesn't.
use Rattle.std.specs.Prelude.{◌≡◌, ℕ, zero, suc, List, [], ◌∷◌, ◌++◌, find, Option, Some, None}
use Rattle.sdr_base.specs.Blocks.{with_at}
use Rattle.sdr_base.specs.Catalogue.{NameRow, catalogue_entries, name_addr}
use Rattle.sdr_base.specs.Entries.{Adds, Changes}
use Rattle.sdr_base.specs.Linked.{first_of, last_of}
use Rattle.sdr_base.specs.Making.{besides, with_moves}
use Rattle.sdr_base.specs.Objects.{Heap, OnlyFault, OnlyShort, OnlyUnmoved, with_root}
use Rattle.sdr_base.specs.declared.control.TheConstants.{FIRST_NAME, LAST_NAME}
use Rattle.sdr_base.specs.declared.moves.Move.{Move}
use Rattle.sdr_base.specs.declared.moves.Move.TheVariants.{Took, Gave}
use Rattle.sdr_base.specs.declared.refusal.Refusal.TheVariants as refusals
use Rattle.sdr_base.specs.declared.stop.Stop.{Stop}
use Rattle.sdr_base.specs.declared.stop.Stop.TheVariants.{Refused}
use Rattle.sdr_cat.specs.Calls.{LacksName}
use Rattle.sdr_cat.specs.Kept.{KeepsNames}
use Rattle.sdr_cat.specs.Names.{IsBadName, IsName, is_named, without_name}
use Rattle.sdr_cat.specs.Walks.{IsFirst}
use Rattle.sdr_cat.specs.declared.searching.Place.{Place}

-- the control words of a catalogue of these entries
abbrev pub with_names : (ℕ → ℕ) → List NameRow → ℕ → ℕ
with_names roots names = with_at (with_at roots FIRST_NAME (first_of name_addr 0 names)) LAST_NAME (last_of name_addr 0 names)

-- beside the blocks nothing is another but the control words of the catalogue, which has these entries now, and these moves
-- were made
pub record Renamed (moves : List Move) (names : List NameRow) (old new : Heap) : Type 0 where
  pub all : besides new ≡ record (besides (with_moves old moves)) { roots = with_names old.roots names }

-- the entries with a new one at the end
abbrev pub with_last : List NameRow → ℕ → List ℕ → ℕ → ℕ → List NameRow
with_last names addr name kind object =
    names ++ record { addr = addr; type_number = kind; object = object; name = name } ∷ []

-- a new entry has come at the end of whichever catalogue is kept, and all else stays
pub record AddsLast (name : List ℕ) (kind object : ℕ) (old new : Heap) : Type 0 where
  pub addr : ℕ
  pub adds : (names : List NameRow) → KeepsNames old names →
      Adds old.blocks new.blocks addr (catalogue_entries names) (catalogue_entries (with_last names addr name kind object))
  pub renamed : (names : List NameRow) → KeepsNames old names →
      Renamed (Took 56 addr ∷ []) (with_last names addr name kind object) old new

-- so has a name that was in none
pub record CataloguesName (name : List ℕ) (kind object : ℕ) (old new : Heap) : Type 0 where
  pub lacks : LacksName name old
  pub adds : AddsLast name kind object old new

-- the object of an entry
abbrev pub object_of : Option NameRow → Option ℕ
object_of None = None
object_of (Some row) = Some row.object

-- the name is in whichever catalogue is kept, for this object
pub record HasName (name : List ℕ) (object : ℕ) (heap : Heap) : Type 0 where
  pub is : IsName name
  pub names_it : (names : List NameRow) → KeepsNames heap names → object_of (find (is_named name) names) ≡ Some object

-- why a name isn't catalogued: for its length, or it is there, and all is as before; or there is no block for it, or no
-- log room; or a fault
abbrev pub CatlgStops : List ℕ → Heap → Heap → Stop → Type 0
CatlgStops name old new (Refused (refusals.BadLength count most)) =
    IsBadName name (Refused (refusals.BadLength count most)) × (new ≡ old)
CatlgStops name old new (Refused (refusals.NameTaken object)) = HasName name object old × (new ≡ old)
CatlgStops name old new (Refused refusal) = LacksName name old × OnlyShort 56 old new (Refused refusal)
CatlgStops name old new stop = OnlyFault stop

-- where nothing follows, this is the last one
abbrev pub last_if : ℕ → ℕ → Heap → Heap
last_if zero prev heap = with_root heap LAST_NAME prev
last_if (suc next) prev heap = heap

-- the last one's word was set
pub record LinksLast (next prev : ℕ) (old new : Heap) : Type 0 where
  pub links : new ≡ last_if next prev old

-- the place is that of some entry of some catalogue that is kept
pub record SomeFirst (place : Place) (heap : Heap) : Type 0 where
  pub names : List NameRow
  pub name : List ℕ
  pub keeps : KeepsNames heap names
  pub is : IsFirst name names place

-- the entry at the place was taken out of whichever catalogue is kept, and given back, and all else stays
pub record TakesOut (place : Place) (old new : Heap) : Type 0 where
  pub changes : (names : List NameRow) (name : List ℕ) → KeepsNames old names → IsFirst name names place →
      Changes old.blocks new.blocks (catalogue_entries names) (catalogue_entries (without_name name names))
  pub renamed : (names : List NameRow) (name : List ℕ) → KeepsNames old names → IsFirst name names place →
      Renamed (Gave place.addr ∷ []) (without_name name names) old new

-- the address of an entry
abbrev pub row_addr : Option NameRow → Option ℕ
row_addr None = None
row_addr (Some row) = Some row.addr

-- the name is in whichever catalogue is kept, with an entry at this address
pub record IsThere (name : List ℕ) (heap : Heap) : Type 0 where
  pub is : IsName name
  pub addr : ℕ
  pub entry : (names : List NameRow) → KeepsNames heap names → row_addr (find (is_named name) names) ≡ Some addr

-- the name was taken out of whichever catalogue is kept, and its entry given back, and all else stays
pub record UncataloguesName (name : List ℕ) (old new : Heap) : Type 0 where
  pub there : IsThere name old
  pub changes : (names : List NameRow) → KeepsNames old names →
      Changes old.blocks new.blocks (catalogue_entries names) (catalogue_entries (without_name name names))
  pub renamed : (names : List NameRow) → KeepsNames old names →
      Renamed (Gave there.addr ∷ []) (without_name name names) old new

-- why it isn't: for its length, or it isn't there, and all is as before; or there is no log room, and no move was made; or
-- a fault
abbrev pub UncatlgStops : List ℕ → Heap → Heap → Stop → Type 0
UncatlgStops name old new (Refused (refusals.BadLength count most)) =
    IsBadName name (Refused (refusals.BadLength count most)) × (new ≡ old)
UncatlgStops name old new (Refused refusals.NotFound) = LacksName name old × (new ≡ old)
UncatlgStops name old new (Refused refusal) = IsThere name old × OnlyUnmoved old new (Refused refusal)
UncatlgStops name old new stop = OnlyFault stop
