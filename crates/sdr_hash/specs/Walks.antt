-- How far a bucket was walked, and what was found.
use Rattle.std.specs.Prelude.{◌≡◌, ℕ, List, [], ◌∷◌, ◌++◌, length, true, Bool, Option, None, Some, find, nat_eq}
use Rattle.std.specs.Cmp.Lexicographic.{pointwise}
use Rattle.sdr_base.specs.Blocks.{Block, Blocks, HasBytes}
use Rattle.sdr_base.specs.Hashes.{HashItem, item_addr}
use Rattle.sdr_base.specs.Linked.{first_of}
use Rattle.sdr_hash.specs.Buckets.{item_has_key}
use Rattle.sdr_hash.specs.Opened.{FrontsBucket, KeepsBucket}
use Rattle.sdr_hash.specs.declared.bucket.Link.{Link}
use Rattle.sdr_hash.specs.declared.searching.Place.{Place}

-- the link behind these entries, the first of which has this one
abbrev pub link_behind : Link → List HashItem → Link
link_behind front [] = front
link_behind front (item ∷ items) = link_behind (record { addr = item.addr; field = 0 }) items

-- so many entries were passed, and none of them has the key; the cursor is at the first of those that are left
pub record Walked (key : List ℕ) (front : Link) (bucket : List HashItem) (link : Link) (cursor i : ℕ) : Type 0 where
  pub passed : List HashItem
  pub left : List HashItem
  pub whole : bucket ≡ passed ++ left
  pub counted : length passed ≡ i
  pub none : find (item_has_key key) passed ≡ None
  pub at_cursor : cursor ≡ first_of item_addr 0 left
  pub at_link : link ≡ link_behind front passed

-- whichever bucket is kept was walked so far
pub record Walks (blocks : Blocks) (front : Link) (key : List ℕ) (link : Link) (cursor i : ℕ) : Type 0 where
  pub walked : (bucket : List HashItem) → KeepsBucket blocks front (length key) bucket → Walked key front bucket link cursor i

-- the first entry of a key, with those before and behind it
pub record IsFirst (key : List ℕ) (front : Link) (bucket : List HashItem) (place : Place) : Type 0 where
  pub before : List HashItem
  pub item : HashItem
  pub behind : List HashItem
  pub whole : bucket ≡ before ++ (item ∷ behind)
  pub none : find (item_has_key key) before ≡ None
  pub keyed : item_has_key key item ≡ true
  pub at_addr : place.addr ≡ item.addr
  pub at_link : place.link ≡ link_behind front before

-- this is the place of the key in the bucket, or there is none
abbrev pub Searched : List ℕ → Link → List HashItem → Option Place → Type 0
Searched key front bucket None = find (item_has_key key) bucket ≡ None
Searched key front bucket (Some place) = IsFirst key front bucket place

-- so it is in whichever bucket is kept
pub record Searches (blocks : Blocks) (front : Link) (key : List ℕ) (found : Option Place) : Type 0 where
  pub searched : (bucket : List HashItem) → KeepsBucket blocks front (length key) bucket → Searched key front bucket found

-- this is the link to the first entry of a key's bucket, and the place of the key in it
pub record Locates (blocks : Blocks) (hash : ℕ) (key : List ℕ) (at : Link × Place) : Type 0 where
  pub fronts : FrontsBucket blocks hash key at.0
  pub found : Searches blocks at.0 key (Some at.1)

-- the key in an entry's block was compared with another
pub record Compares (found : Option Block) (key : List ℕ) (answer : Bool) : Type 0 where
  pub bytes : List ℕ
  pub has : HasBytes found 16 (length key) bytes
  pub is : answer ≡ pointwise nat_eq bytes key
