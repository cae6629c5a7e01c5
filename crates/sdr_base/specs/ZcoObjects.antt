-- The blocks that keep a zero-copy object: the object's own, and chains of headers, extents and trailers.
use Rattle.std.specs.Prelude.{ℕ, List, [], ◌∷◌, ◌++◌}
use Rattle.sdr_base.specs.Blocks.{Block}
use Rattle.sdr_base.specs.Entries.{Entries}
use Rattle.sdr_base.specs.Linked.{first_of, last_of, linked}
use Rattle.sdr_base.specs.Words.{layout}
use Rattle.sdr_base.specs.declared.account.Acct.{Acct}
use Rattle.sdr_base.specs.declared.account.Acct.TheVariants as accts
use Rattle.sdr_base.specs.declared.kind.Kind.TheVariants as kinds

-- the number of an account
abbrev pub account_number : Acct → ℕ
account_number accts.Inbound = 0
account_number accts.Outbound = 1

-- a header or trailer: its address and its text
pub record CapsuleRow : Type 0 where
  pub addr : ℕ
  pub text : List ℕ

-- an extent: its address, its source's, and its part of the source
pub record ExtentRow : Type 0 where
  pub addr : ℕ
  pub source : ℕ
  pub offset : ℕ
  pub length : ℕ

-- an object: its account, its headers, extents and trailers, and the part of its extents that it reaches over
pub record ObjectRow : Type 0 where
  pub account : Acct
  pub headers : List CapsuleRow
  pub extents : List ExtentRow
  pub trailers : List CapsuleRow
  pub part_offset : ℕ
  pub part_length : ℕ

-- where a header or trailer stands
abbrev pub capsule_addr : CapsuleRow → ℕ
capsule_addr row = row.addr

-- where an extent stands
abbrev pub extent_addr : ExtentRow → ℕ
extent_addr row = row.addr

-- the block of an object: account; the first and the last extent, header and trailer; and the part
abbrev pub object_block : ObjectRow → Block
object_block row = record {
  kind = kinds.Object;
  bytes =
      layout
      (account_number row.account
      ∷ first_of extent_addr 0 row.extents ∷ last_of extent_addr 0 row.extents
      ∷ first_of capsule_addr 0 row.headers ∷ last_of capsule_addr 0 row.headers
      ∷ first_of capsule_addr 0 row.trailers ∷ last_of capsule_addr 0 row.trailers
      ∷ row.part_offset ∷ row.part_length ∷ []) [];
}

-- the block of an extent: source, offset, length, and the next extent
abbrev pub extent_block : ℕ → ℕ → ExtentRow → Block
extent_block previous next row =
    record { kind = kinds.Extent; bytes = layout (row.source ∷ row.offset ∷ row.length ∷ next ∷ []) [] }

-- the block of a header or trailer: the next one, and the text
abbrev pub capsule_block : ℕ → ℕ → CapsuleRow → Block
capsule_block previous next row = record { kind = kinds.Capsule; bytes = layout (next ∷ []) row.text }

-- a chain of headers, or of trailers
abbrev pub capsule_entries : List CapsuleRow → Entries
capsule_entries rows = linked capsule_addr capsule_block 0 0 rows

-- a chain of extents
abbrev pub extent_entries : List ExtentRow → Entries
extent_entries rows = linked extent_addr extent_block 0 0 rows

-- the blocks of an object
abbrev pub object_entries : ℕ → ObjectRow → Entries
object_entries addr row =
    (addr, object_block row)
    ∷ (capsule_entries row.headers ++ extent_entries row.extents ++ capsule_entries row.trailers)
