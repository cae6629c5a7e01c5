-- The block that keeps a table.
use Rattle.std.specs.Prelude.{ℕ, List, [], ◌∷◌}
use Rattle.sdr_base.specs.Blocks.{Block}
use Rattle.sdr_base.specs.Entries.{Entries}
use Rattle.sdr_base.specs.Words.{layout}
use Rattle.sdr_base.specs.declared.kind.Kind.TheVariants as kinds

-- a table: a number of the user's, the bytes of a row, the count of its rows, and the rows one after another
pub record TableRow : Type 0 where
  pub user : ℕ
  pub size : ℕ
  pub rows : ℕ
  pub bytes : List ℕ

-- the block of a table
abbrev pub table_block : TableRow → Block
table_block row = record { kind = kinds.Table; bytes = layout (row.user ∷ row.size ∷ row.rows ∷ []) row.bytes }

-- the blocks of a table: one
abbrev pub table_entries : ℕ → TableRow → Entries
table_entries addr row = (addr, table_block row) ∷ []
