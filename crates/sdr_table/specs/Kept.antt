-- Tables that are kept in blocks, and how large they may be.
use Rattle.std.specs.Prelude.{◌≡◌, ◌<◌, ◌*◌, ◌^◌, ℕ, [], ◌∷◌, length, nat_lt, find, Option, Some, None}
use Rattle.sdr_base.specs.Blocks.{Block, IsKind}
use Rattle.sdr_base.specs.Tables.{TableRow, table_block}
use Rattle.sdr_base.specs.declared.kind.Kind.TheVariants as kinds
use Rattle.sdr_base.specs.declared.refusal.Refusal.TheVariants as refusals
use Rattle.sdr_base.specs.declared.stop.Stop.{Stop}
use Rattle.sdr_base.specs.declared.stop.Stop.TheVariants.{Refused}
use Rattle.sdr_table.specs.declared.table.TheConstants.{LARGEST_TABLE}

-- of the rows, the bytes of a row and the bytes of all rows the first that are too many
abbrev pub first_above : ℕ → ℕ → Option ℕ
first_above rows size = find (nat_lt LARGEST_TABLE) (rows ∷ size ∷ rows * size ∷ [])

-- it is refused for the first that are too many
abbrev pub IsAbove : ℕ → ℕ → Stop → Type 0
IsAbove rows size (Refused (refusals.BadLength length most)) =
    (first_above rows size ≡ Some length) × (most ≡ LARGEST_TABLE)
IsAbove rows size stop = ⊥

-- what stands at an address is the block of this table
pub record KeepsTable (found : Option Block) (table : TableRow) : Type 0 where
  pub block : found ≡ Some (table_block table)
  pub filled : length table.bytes ≡ table.rows * table.size
  pub fits : first_above table.rows table.size ≡ None
  pub user : table.user < 2 ^ 64

-- some table is kept there
pub record SomeTable (found : Option Block) : Type 0 where
  pub table : TableRow
  pub keeps : KeepsTable found table

-- where a table's block stands, a table is kept
abbrev pub IsTable : Option Block → Type 0
IsTable found = IsKind found kinds.Table → SomeTable found
