-- The orders of keys that lists are kept by.
use Rattle.std.specs.Prelude.{◌≡◌, ◌≤◌, ℕ, List, [], ◌∷◌, length, take, drop, Option, Some, None, Bool, not, ◌+◌, ◌==◌, ◌&&◌, if◌then◌else◌, find}
use Rattle.std.specs.Ordering.{ordering_reverse, is_eq, is_gt}
use Rattle.std.specs.declared.cmp.Ordering.{Ordering}
use Rattle.std.specs.declared.cmp.Ordering.TheVariants.{Less, Equal}
use Rattle.sdr_base.specs.Blocks.{Block, Blocks}
use Rattle.sdr_base.specs.Lists.{ListElement, ListRow, KeepsList}
use Rattle.sdr_base.specs.Words.{HasWord}
use Rattle.sdr_base.specs.declared.kind.Kind.{Kind}
use Rattle.sdr_base.specs.declared.kind.Kind.TheVariants as kinds
use Rattle.sdr_base.specs.declared.layout.raw.TheConstants.{BYTES}
use Rattle.sdr_list.specs.Kept.{addr_before}
use Rattle.sdr_base.specs.declared.limits.TheConstants.{LONGEST_SORT_KEY}

-- the key is one that is compared
abbrev pub IsKey : List ℕ → Type 0
IsKey key = length key ≤ LONGEST_SORT_KEY

-- on keys the order is total: turned round it gives the reverse, it is transitive, and keys that are equal by it compare
-- alike with all others
pub record IsPreorder (order : List ℕ → List ℕ → Ordering) : Type 0 where
  pub turned : (a b : List ℕ) → IsKey a → IsKey b → order a b ≡ ordering_reverse (order b a)
  pub trans : (a b c : List ℕ) → IsKey a → IsKey b → IsKey c → order a b ≡ Less → order b c ≡ Less → order a c ≡ Less
  pub alike : (a b c : List ℕ) → IsKey a → IsKey b → IsKey c → order a b ≡ Equal → order a c ≡ order b c

-- the first bytes of a raw object
abbrev pub if_raw : Kind → List ℕ → List ℕ
if_raw kinds.Raw bytes = take LONGEST_SORT_KEY (drop BYTES bytes)
if_raw kind bytes = []

-- the key in a block: the first bytes of a raw object, and none of any other
abbrev pub key_in : Option Block → List ℕ
key_in None = []
key_in (Some block) = if_raw block.kind block.bytes

-- the key that a datum is compared by: that of the block that it names
abbrev pub sort_key : Blocks → ℕ → List ℕ
sort_key blocks datum = key_in (blocks datum)

-- behind the last of these elements whose datum passes a test; the front where none does
abbrev pub place_behind : (ℕ → Bool) → List ListElement → ℕ
place_behind test [] = 0
place_behind test (x ∷ xs) =
    let place = place_behind test xs in
    if place == 0 && not (test x.datum) then 0 else place + 1

-- where a key goes in order: behind the last element whose key is less or equal
abbrev pub key_place : (List ℕ → List ℕ → Ordering) → Blocks → List ℕ → ListRow → ℕ
key_place order blocks key row = place_behind (λ other. not (is_gt (order (sort_key blocks other) key))) row.elements

-- where a new element of this datum goes in order
abbrev pub ordered_place : (List ℕ → List ℕ → Ordering) → Blocks → ℕ → ListRow → ℕ
ordered_place order blocks datum row = key_place order blocks (sort_key blocks datum) row

-- the address of the element, 0 where there is none
abbrev pub found_addr : Option ListElement → ℕ
found_addr None = 0
found_addr (Some element) = element.addr

-- the address of the first element of equal key, 0 where there is none
abbrev pub key_addr : (List ℕ → List ℕ → Ordering) → Blocks → List ℕ → ListRow → ℕ
key_addr order blocks key row = found_addr (find (λ x. is_eq (order (sort_key blocks x.datum) key)) row.elements)

-- the address of the first element whose key is that of this datum, by the order, 0 where there is none
abbrev pub equal_addr : (List ℕ → List ℕ → Ordering) → Blocks → ℕ → ListRow → ℕ
equal_addr order blocks datum row = key_addr order blocks (sort_key blocks datum) row

-- the first bytes of a buffer, so many, are the key in a block
pub record ReadsKey (found : Option Block) (count : ℕ) (into : List ℕ) : Type 0 where
  pub short : count ≤ LONGEST_SORT_KEY
  pub key : take count into ≡ key_in found

-- an element's datum was read, and its key compared with another
pub record Compares (order : List ℕ → List ℕ → Ordering) (blocks : Blocks) (element : ℕ) (key : List ℕ) (answer : Ordering) : Type 0 where
  pub datum : ℕ
  pub word : HasWord (blocks element) 3 datum
  pub is : answer ≡ order (sort_key blocks datum) key

-- behind the element at this address, or at the front where that is 0, a key has its place in whichever list is kept
pub record FindsPlace (order : List ℕ → List ℕ → Ordering) (blocks : Blocks) (list : ℕ) (key : List ℕ) (prev : ℕ) : Type 0 where
  pub place : (row : ListRow) → KeepsList blocks list row → prev ≡ addr_before row (key_place order blocks key row)

-- this is the first element of equal key in whichever list is kept, or 0
pub record FindsEqual (order : List ℕ → List ℕ → Ordering) (blocks : Blocks) (list : ℕ) (key : List ℕ) (found : ℕ) : Type 0 where
  pub equal : (row : ListRow) → KeepsList blocks list row → found ≡ key_addr order blocks key row
