-- The block that keeps a source.
use Rattle.std.specs.Prelude.{ℕ, Bool, cond, List, [], ◌∷◌}
use Rattle.sdr_base.specs.Blocks.{Block}
use Rattle.sdr_base.specs.Entries.{Entries}
use Rattle.sdr_base.specs.Words.{layout}
use Rattle.sdr_base.specs.declared.kind.Kind.TheVariants as kinds
use Rattle.sdr_base.specs.declared.medium.Medium.{Medium}
use Rattle.sdr_base.specs.declared.medium.Medium.TheVariants as media

-- the number of the medium of a source
abbrev pub medium_number : Medium → ℕ
medium_number media.File = 1
medium_number media.Bulk = 2
medium_number media.Heap = 3
medium_number media.Obj = 4

-- a source: its medium, whether it is flagged, the number of the item or the address of the raw object, 0 for a file, its
-- length, and the path of a file
pub record SourceRow : Type 0 where
  pub medium : Medium
  pub flagged : Bool
  pub subject : ℕ
  pub length : ℕ
  pub path : List ℕ

-- the word of a yes or no: 1 for yes, 0 for no
abbrev pub flag_word : Bool → ℕ
flag_word flag = cond flag 1 0

-- the block of a source that so many extents of each account name
abbrev pub source_block : ℕ → ℕ → SourceRow → Block
source_block inbound outbound row = record {
  kind = kinds.Source;
  bytes =
      layout (medium_number row.medium ∷ flag_word row.flagged ∷ inbound ∷ outbound ∷ row.subject ∷ row.length ∷ []) row.path;
}

-- the blocks of a source: one
abbrev pub source_entries : ℕ → ℕ → ℕ → SourceRow → Entries
source_entries addr inbound outbound row = (addr, source_block inbound outbound row) ∷ []
