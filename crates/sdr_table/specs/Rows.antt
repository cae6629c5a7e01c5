-- What the calls on rows come to, and when they are refused.
use Rattle.std.specs.Prelude.{◌≡◌, ◌≢◌, ◌≤◌, ◌<◌, ◌*◌, ℕ, List, length, take, Option}
use Rattle.sdr_base.specs.Blocks.{Block, IsKind}
use Rattle.sdr_base.specs.Entries.{Changes}
use Rattle.sdr_base.specs.Making.{besides}
use Rattle.sdr_base.specs.Objects.{Heap, Misses, OnlyFault, OnlyUnmoved}
use Rattle.sdr_base.specs.Parts.{overwrite, part}
use Rattle.sdr_base.specs.Tables.{TableRow, table_entries}
use Rattle.sdr_base.specs.declared.kind.Kind.TheVariants as kinds
use Rattle.sdr_base.specs.declared.refusal.Refusal.TheVariants as refusals
use Rattle.sdr_base.specs.declared.stop.Stop.{Stop}
use Rattle.sdr_base.specs.declared.stop.Stop.TheVariants.{Refused}
use Rattle.sdr_table.specs.Kept.{KeepsTable}
use Rattle.sdr_table.specs.declared.rows.TheConstants.{LONGEST_ROW}

-- the bytes of a row
abbrev pub row_bytes : TableRow → ℕ → List ℕ
row_bytes table row = part (table.size * row) table.size table.bytes

-- the table with other bytes in a row
abbrev pub with_row : TableRow → ℕ → List ℕ → TableRow
with_row table row from = record table { bytes = overwrite (table.size * row) from table.bytes }

-- the table has the row, of so many bytes
pub record IsSize (table : TableRow) (row size : ℕ) : Type 0 where
  pub inside : row < table.rows
  pub bytes : size ≡ table.size

-- whichever table is kept has the row, of so many bytes
pub record HasRow (found : Option Block) (row size : ℕ) : Type 0 where
  pub kind : IsKind found kinds.Table
  pub is : (table : TableRow) → KeepsTable found table → IsSize table row size

-- whichever table is kept has so many rows, and not this one
pub record IsNoRow (found : Option Block) (row rows : ℕ) : Type 0 where
  pub kind : IsKind found kinds.Table
  pub counts : (table : TableRow) → KeepsTable found table → rows ≡ table.rows
  pub outside : rows ≤ row

-- why there is no such row: for the address, or for the number; or a fault
abbrev pub LacksRow : Option Block → ℕ → ℕ → Stop → Type 0
LacksRow found addr row (Refused (refusals.BadRow bad rows)) = (bad ≡ row) × IsNoRow found row rows
LacksRow found addr row stop = Misses found addr kinds.Table stop

-- the row was read into the first bytes of a buffer
pub record ReadsRow (found : Option Block) (row size : ℕ) (into : List ℕ) : Type 0 where
  pub has : HasRow found row size
  pub short : size ≤ LONGEST_ROW
  pub bytes : (table : TableRow) → KeepsTable found table → take size into ≡ row_bytes table row

-- why it isn't: there is no such row, or it is too long to be read at once; or a fault
abbrev pub RowStops : Option Block → ℕ → ℕ → Stop → Type 0
RowStops found addr row (Refused (refusals.BadLength size most)) =
    HasRow found row size × (most ≡ LONGEST_ROW) × (LONGEST_ROW < size)
RowStops found addr row stop = LacksRow found addr row stop

-- the row of whichever table is kept has become another, with no move, and all else stays
pub record SetsRow (addr row : ℕ) (from : List ℕ) (old new : Heap) : Type 0 where
  pub has : HasRow (old.blocks addr) row (length from)
  pub changes : (table : TableRow) → KeepsTable (old.blocks addr) table →
      Changes old.blocks new.blocks (table_entries addr table) (table_entries addr (with_row table row from))
  pub same : besides new ≡ besides old

-- why it isn't: there is no such row, or it isn't of so many bytes, and all is as before; or there is no log room, and no
-- move was made; or a fault
abbrev pub SetStops : ℕ → ℕ → ℕ → Heap → Heap → Stop → Type 0
SetStops addr row count old new (Refused (refusals.BadLength length size)) =
    (length ≡ count) × HasRow (old.blocks addr) row size × (count ≢ size) × (new ≡ old)
SetStops addr row count old new (Refused (refusals.LogFull lines room)) =
    HasRow (old.blocks addr) row count × OnlyUnmoved old new (Refused (refusals.LogFull lines room))
SetStops addr row count old new (Refused refusal) =
    LacksRow (old.blocks addr) addr row (Refused refusal) × (new ≡ old)
SetStops addr row count old new stop = OnlyFault stop
