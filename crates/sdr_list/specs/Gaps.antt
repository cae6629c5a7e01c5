-- A list that is opened at a place, and how the links there are set.
use Rattle.std.specs.Prelude.{◌≡◌, ◌+◌, ℕ, List, ◌∷◌, ◌++◌}
use Rattle.sdr_base.specs.Blocks.{Blocks}
use Rattle.sdr_base.specs.Entries.{Adds, Changes, Entries, BlocksAre}
use Rattle.sdr_base.specs.Linked.{first_of, last_of}
use Rattle.sdr_base.specs.Lists.{ListElement, ListRow, KeepsList, addr_of, list_block, list_entries, elements_between}
use Rattle.sdr_list.specs.Kept.{IsSpot, Spot, addr_before, addr_from, with_element, without_element}

-- an opened list: the user's number, the count, the elements on either side, what those before are followed by, what those
-- behind follow, and what stands between
pub record Gap : Type 0 where
  pub user : ℕ
  pub count : ℕ
  pub before : List ListElement
  pub behind : List ListElement
  pub next : ℕ
  pub previous : ℕ
  pub between : Entries

-- the blocks of an opened list, and others
abbrev pub gap_entries : ℕ → Gap → Entries → Entries
gap_entries list gap rest =
    (list, list_block gap.user gap.count (first_of addr_of gap.next gap.before) (last_of addr_of gap.previous gap.behind))
    ∷ (elements_between list 0 gap.next gap.before
    ++ (gap.between ++ (elements_between list gap.previous 0 gap.behind ++ rest)))

-- an opened list and others are just the blocks in use
pub record Opened (blocks : Blocks) (list : ℕ) (gap : Gap) (rest : Entries) : Type 0 where
  pub stands : BlocksAre blocks (gap_entries list gap rest)

-- wherever a list is opened behind `prev`, that is followed by another
pub record LinksNext (old new : Blocks) (list prev next : ℕ) : Type 0 where
  pub links : (gap : Gap) (rest : Entries) → prev ≡ last_of addr_of 0 gap.before → Opened old list gap rest →
      Opened new list (record gap { next = next }) rest

-- wherever a list is opened before `next`, that follows another
pub record LinksPrevious (old new : Blocks) (list next prev : ℕ) : Type 0 where
  pub links : (gap : Gap) (rest : Entries) → next ≡ first_of addr_of 0 gap.behind → Opened old list gap rest →
      Opened new list (record gap { previous = prev }) rest

-- a list is kept, and a place in it is between these two
pub record IsPlace (blocks : Blocks) (list prev next : ℕ) (row : ListRow) (place : ℕ) : Type 0 where
  pub keeps : KeepsList blocks list row
  pub at_prev : prev ≡ addr_before row place
  pub at_next : next ≡ addr_from row place

-- the number that follows in whichever list is kept, at each place behind `prev`
pub record FollowsIn (blocks : Blocks) (list prev next : ℕ) : Type 0 where
  pub follows : (row : ListRow) (place : ℕ) → KeepsList blocks list row → prev ≡ addr_before row place →
      next ≡ addr_from row place

-- some list is kept with such a place behind `prev`
pub record SomePlaceBehind (blocks : Blocks) (list prev : ℕ) : Type 0 where
  pub row : ListRow
  pub place : ℕ
  pub keeps : KeepsList blocks list row
  pub at_prev : prev ≡ addr_before row place

-- some list is kept with such a place
pub record SomePlace (blocks : Blocks) (list prev next : ℕ) : Type 0 where
  pub row : ListRow
  pub place : ℕ
  pub is : IsPlace blocks list prev next row place

-- a new element has come between these two, in whichever list is kept
pub record InsertsBetween (old new : Blocks) (list prev next addr datum : ℕ) : Type 0 where
  pub adds : (row : ListRow) (place : ℕ) → IsPlace old list prev next row place →
      Adds old new addr (list_entries list row) (list_entries list (with_element row place addr datum))

-- the element has this place, in this list and between these two
pub record IsBetween (blocks : Blocks) (list prev next element : ℕ) (spot : Spot) : Type 0 where
  pub is : IsSpot blocks element spot
  pub in_list : list ≡ spot.list
  pub at_prev : prev ≡ addr_before spot.row spot.place
  pub at_next : next ≡ addr_from spot.row (spot.place + 1)

-- the element has some such place
pub record SomeBetween (blocks : Blocks) (list prev next element : ℕ) : Type 0 where
  pub spot : Spot
  pub is : IsBetween blocks list prev next element spot

-- whichever list has the element between these two has it no more
pub record Unlinks (old new : Blocks) (list prev next element : ℕ) : Type 0 where
  pub changes : (spot : Spot) → IsBetween old list prev next element spot →
      Changes old new (list_entries spot.list spot.row)
      (list_entries spot.list (without_element spot.row spot.place))
