-- How far the catalogue was walked, and what was found.
use Rattle.std.specs.Prelude.{◌≡◌, ℕ, List, ◌∷◌, ◌++◌, length, true, false, Bool, Option, None, Some, find, nat_eq, drop}
use Rattle.std.specs.Cmp.Lexicographic.{pointwise}
use Rattle.sdr_base.specs.Blocks.{Block, HasBytes}
use Rattle.sdr_base.specs.Catalogue.{NameRow, name_addr}
use Rattle.sdr_base.specs.Linked.{first_of, last_of}
use Rattle.sdr_base.specs.Objects.{Heap}
use Rattle.sdr_cat.specs.Kept.{KeepsEntry, KeepsNames}
use Rattle.sdr_cat.specs.Names.{is_named}
use Rattle.sdr_cat.specs.declared.searching.Place.{Place}

-- so many entries were passed, and none of them passes a test; the cursor is at the first of those that are left, and the
-- one before it is the last that was passed
pub record Walked (test : NameRow → Bool) (names : List NameRow) (previous cursor i : ℕ) : Type 0 where
  pub passed : List NameRow
  pub left : List NameRow
  pub whole : names ≡ passed ++ left
  pub counted : length passed ≡ i
  pub none : find test passed ≡ None
  pub at_cursor : cursor ≡ first_of name_addr 0 left
  pub at_previous : previous ≡ last_of name_addr 0 passed

-- whichever catalogue is kept was walked so far
pub record Walks (heap : Heap) (test : NameRow → Bool) (previous cursor i : ℕ) : Type 0 where
  pub walked : (names : List NameRow) → KeepsNames heap names → Walked test names previous cursor i

-- the first entry of a name, with those before and behind it
pub record IsFirst (name : List ℕ) (names : List NameRow) (place : Place) : Type 0 where
  pub before : List NameRow
  pub row : NameRow
  pub behind : List NameRow
  pub whole : names ≡ before ++ (row ∷ behind)
  pub none : find (is_named name) before ≡ None
  pub named : is_named name row ≡ true
  pub at_addr : place.addr ≡ row.addr
  pub at_previous : place.previous ≡ last_of name_addr 0 before

-- this is the place of the name among these, or there is none
abbrev pub Searched : List ℕ → List NameRow → Option Place → Type 0
Searched name names None = find (is_named name) names ≡ None
Searched name names (Some place) = IsFirst name names place

-- so it is in whichever catalogue is kept
pub record Searches (heap : Heap) (name : List ℕ) (found : Option Place) : Type 0 where
  pub searched : (names : List NameRow) → KeepsNames heap names → Searched name names found

-- the length and the name in an entry's block were compared with others
pub record Compares (found : Option Block) (name : List ℕ) (answer : Bool) : Type 0 where
  pub bytes : List ℕ
  pub has : HasBytes found 24 32 bytes
  pub is : answer ≡ pointwise nat_eq bytes name

-- where the address of none is 0, that of the entry at a place in whichever catalogue is kept
pub record Counts (heap : Heap) (place addr : ℕ) : Type 0 where
  pub counted : (names : List NameRow) → KeepsNames heap names → addr ≡ first_of name_addr 0 (drop place names)

-- the type and the object of whichever entry stands there
pub record TellsEntry (found : Option Block) (value : ℕ × ℕ) : Type 0 where
  pub tells : (row : NameRow) (next : ℕ) → KeepsEntry found row next → value ≡ (row.type_number, row.object)

-- the address at the cursor is that of the entry at a place, if there is one, after so many steps
pub record Steps (heap : Heap) (cursor i : ℕ) : Type 0 where
  pub previous : ℕ
  pub walks : Walks heap (λ row. false) previous cursor i
