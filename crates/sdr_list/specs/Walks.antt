-- How far a list was walked.
use Rattle.std.specs.Prelude.{◌≡◌, ℕ, List, ◌++◌, length, Bool, not, None, find}
use Rattle.std.specs.Ordering.{is_eq, is_gt}
use Rattle.std.specs.declared.cmp.Ordering.{Ordering}
use Rattle.sdr_base.specs.Blocks.{Blocks}
use Rattle.sdr_base.specs.Linked.{first_of, last_of}
use Rattle.sdr_base.specs.Lists.{ListElement, ListRow, KeepsList, addr_of}
use Rattle.sdr_list.specs.Orders.{place_behind, sort_key}

-- from the end so many elements were seen, and none of them passes; the cursor is at the last of those that are left
pub record WalkedBack (test : ℕ → Bool) (xs : List ListElement) (cursor i : ℕ) : Type 0 where
  pub left : List ListElement
  pub seen : List ListElement
  pub whole : xs ≡ left ++ seen
  pub passed : length seen ≡ i
  pub at_cursor : cursor ≡ last_of addr_of 0 left
  pub none : place_behind test seen ≡ 0

-- from the front so many elements were seen, and none of them passes; the cursor is at the first of those that are left
pub record WalkedOn (test : ListElement → Bool) (xs : List ListElement) (cursor i : ℕ) : Type 0 where
  pub seen : List ListElement
  pub left : List ListElement
  pub whole : xs ≡ seen ++ left
  pub passed : length seen ≡ i
  pub at_cursor : cursor ≡ first_of addr_of 0 left
  pub none : find test seen ≡ None

-- whichever list is kept was walked back past elements of greater key
pub record WalksBack (order : List ℕ → List ℕ → Ordering) (blocks : Blocks) (list : ℕ) (key : List ℕ) (cursor i : ℕ) : Type 0 where
  pub walked : (row : ListRow) → KeepsList blocks list row →
      WalkedBack (λ other. not (is_gt (order (sort_key blocks other) key))) row.elements cursor i

-- whichever list is kept was walked past elements of other keys
pub record WalksOn (order : List ℕ → List ℕ → Ordering) (blocks : Blocks) (list : ℕ) (key : List ℕ) (cursor i : ℕ) : Type 0 where
  pub walked : (row : ListRow) → KeepsList blocks list row →
      WalkedOn (λ x. is_eq (order (sort_key blocks x.datum) key)) row.elements cursor i
