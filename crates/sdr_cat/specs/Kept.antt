-- The catalogue that is kept in a heap.
use Rattle.std.specs.Prelude.{◌≡◌, ◌≤◌, ◌<◌, ◌^◌, ℕ, List, ◌++◌, length, All, Option, Some}
use Rattle.sdr_base.specs.Blocks.{Block}
use Rattle.sdr_base.specs.Catalogue.{NameRow, catalogue_entries, name_addr, name_block}
use Rattle.sdr_base.specs.Entries.{Entries, BlocksAre}
use Rattle.sdr_base.specs.Linked.{first_of, last_of}
use Rattle.sdr_base.specs.Objects.{Heap}
use Rattle.sdr_base.specs.declared.control.TheConstants.{FIRST_NAME, LAST_NAME}
use Rattle.sdr_base.specs.declared.limits.TheConstants.{LONGEST_NAME}

-- the numbers of an entry fit their words, the type 32 bits, and its name 31 bytes
pub record NameFits (row : NameRow) : Type 0 where
  pub addr : row.addr < 2 ^ 64
  pub type_number : row.type_number < 2 ^ 32
  pub object : row.object < 2 ^ 64
  pub short : length row.name ≤ LONGEST_NAME

-- the heap keeps this catalogue
pub record KeepsNames (heap : Heap) (names : List NameRow) : Type 0 where
  pub rest : Entries
  pub stands : BlocksAre heap.blocks (catalogue_entries names ++ rest)
  pub first : heap.roots FIRST_NAME ≡ first_of name_addr 0 names
  pub last : heap.roots LAST_NAME ≡ last_of name_addr 0 names
  pub fits : All NameFits names

-- it keeps some catalogue
pub record SomeNames (heap : Heap) : Type 0 where
  pub names : List NameRow
  pub keeps : KeepsNames heap names

-- what stands there is the block of this entry, before the next one
pub record KeepsEntry (found : Option Block) (row : NameRow) (next : ℕ) : Type 0 where
  pub block : found ≡ Some (name_block 0 next row)
  pub fits : NameFits row
  pub small : next < 2 ^ 64

-- some entry stands there
pub record SomeEntry (found : Option Block) : Type 0 where
  pub row : NameRow
  pub next : ℕ
  pub keeps : KeepsEntry found row next
