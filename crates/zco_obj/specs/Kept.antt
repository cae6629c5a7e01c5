-- Zero-copy objects that are kept in a heap.
use Rattle.std.specs.Prelude.{◌≡◌, ◌+◌, ◌<◌, ◌≤◌, ◌^◌, ℕ, List, ◌++◌, length, sum_by, All}
use Rattle.sdr_base.specs.Blocks.{Blocks, IsKind}
use Rattle.sdr_base.specs.Entries.{Entries, BlocksAre}
use Rattle.sdr_base.specs.Linked.{first_of, last_of}
use Rattle.sdr_base.specs.Objects.{Heap}
use Rattle.sdr_base.specs.ZcoObjects.{CapsuleRow, ExtentRow, ObjectRow, object_entries}
use Rattle.sdr_base.specs.declared.kind.Kind.TheVariants as kinds
use Rattle.sdr_model.specs.Limits.{longest_capsule, longest_source}
use Rattle.sdr_model.specs.declared.accounts.Ticket.{Ticket}
use Rattle.zco_acct.specs.Kept.{TicketFits, block_of, queue_entries}
use Rattle.zco_acct.specs.Words.{first_word, last_word}

-- the address of a header or trailer fits a word, and its text isn't too long
pub record CapsuleFits (c : CapsuleRow) : Type 0 where
  pub addr : c.addr < 2 ^ 64
  pub short : length c.text ≤ longest_capsule

-- the addresses of an extent fit their words, and it ends within the longest source
pub record ExtentFits (e : ExtentRow) : Type 0 where
  pub addr : e.addr < 2 ^ 64
  pub source : e.source < 2 ^ 64
  pub inside : e.offset + e.length ≤ longest_source

-- the bytes of these extents together
abbrev pub extents_length : List ExtentRow → ℕ
extents_length = sum_by (λ e. e.length)

-- the bytes of these headers or trailers together
abbrev pub capsules_length : List CapsuleRow → ℕ
capsules_length = sum_by (λ c. length c.text)

-- how many headers, extents and trailers an object has
abbrev pub parts_of : ObjectRow → ℕ
parts_of row = length row.headers + length row.extents + length row.trailers

-- the numbers of an object fit, it has not too many parts, and its part lies inside the bytes of its extents
pub record ObjectFits (row : ObjectRow) : Type 0 where
  pub headers : All CapsuleFits row.headers
  pub extents : All ExtentFits row.extents
  pub trailers : All CapsuleFits row.trailers
  pub few : parts_of row < 2 ^ 22
  pub part : row.part_offset + row.part_length ≤ extents_length row.extents

-- an object is kept among these blocks
pub record KeepsObject (blocks : Blocks) (object : ℕ) (row : ObjectRow) : Type 0 where
  pub rest : Entries
  pub stands : BlocksAre blocks (object_entries object row ++ rest)
  pub fits : ObjectFits row

-- some object is kept there
pub record SomeObject (blocks : Blocks) (object : ℕ) : Type 0 where
  pub row : ObjectRow
  pub keeps : KeepsObject blocks object row

-- where an object's block stands, an object is kept
abbrev pub IsObject : Blocks → ℕ → Type 0
IsObject blocks object = IsKind (blocks object) kinds.Object → SomeObject blocks object

-- the heap keeps an object, and these tickets in the queue of its account
pub record KeepsWithQueue (heap : Heap) (object : ℕ) (row : ObjectRow) (tickets : List Ticket) : Type 0 where
  pub rest : Entries
  pub stands : BlocksAre heap.blocks (object_entries object row ++ (queue_entries row.account tickets ++ rest))
  pub fits : ObjectFits row
  pub first : heap.roots (first_word row.account) ≡ first_of block_of 0 tickets
  pub last : heap.roots (last_word row.account) ≡ last_of block_of 0 tickets
  pub tickets_fit : All TicketFits tickets

-- it keeps some object there so
pub record SomeWithQueue (heap : Heap) (object : ℕ) : Type 0 where
  pub row : ObjectRow
  pub tickets : List Ticket
  pub keeps : KeepsWithQueue heap object row tickets

-- where an object's block stands, an object is kept so
abbrev pub IsWithQueue : Heap → ℕ → Type 0
IsWithQueue heap object = IsKind (heap.blocks object) kinds.Object → SomeWithQueue heap object
