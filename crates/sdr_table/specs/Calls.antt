-- What the calls on tables as a whole come to, and when they are refused.
use Rattle.std.specs.Prelude.{◌≡◌, ℕ, ◌+◌, ◌*◌, [], ◌∷◌, replicate, Option, None}
use Rattle.sdr_base.specs.Blocks.{Block, IsKind}
use Rattle.sdr_base.specs.Entries.{Changes}
use Rattle.sdr_base.specs.Making.{Made, MakesThing}
use Rattle.sdr_base.specs.Objects.{Heap, Misses, OnlyFault, OnlyShort, OnlyUnmoved}
use Rattle.sdr_base.specs.Tables.{TableRow, table_entries}
use Rattle.sdr_base.specs.declared.kind.Kind.TheVariants as kinds
use Rattle.sdr_base.specs.declared.moves.Move.TheVariants.{Gave}
use Rattle.sdr_base.specs.declared.refusal.Refusal.TheVariants as refusals
use Rattle.sdr_base.specs.declared.stop.Stop.{Stop}
use Rattle.sdr_base.specs.declared.stop.Stop.TheVariants.{Refused}
use Rattle.sdr_table.specs.Kept.{IsAbove, KeepsTable, first_above}
use Rattle.sdr_table.specs.declared.table.TheConstants.{ROWS_FROM}

-- a table whose rows are all zeros
abbrev pub zero_table : ℕ → ℕ → ℕ → TableRow
zero_table rows size user =
    record { user = user; size = size; rows = rows; bytes = replicate (rows * size) 0 }

-- the table was made, of zero bytes
pub record MakesTable (rows size user addr : ℕ) (old new : Heap) : Type 0 where
  pub fits : first_above rows size ≡ None
  pub makes : MakesThing (ROWS_FROM + rows * size) addr (table_entries addr (zero_table rows size user)) old new

-- why it isn't: it would be too large, and all is as before; or there is no block for it, or no log room; or a fault
abbrev pub CreateStops : ℕ → ℕ → Heap → Heap → Stop → Type 0
CreateStops rows size old new (Refused (refusals.BadLength length most)) =
    IsAbove rows size (Refused (refusals.BadLength length most)) × (new ≡ old)
CreateStops rows size old new (Refused refusal) =
    (first_above rows size ≡ None) × OnlyShort (ROWS_FROM + rows * size) old new (Refused refusal)
CreateStops rows size old new stop = OnlyFault stop

-- what is told of whichever table is kept
pub record TellsOfTable {A : Type 0} (of : TableRow → A) (found : Option Block) (value : A) : Type 0 where
  pub kind : IsKind found kinds.Table
  pub tells : (table : TableRow) → KeepsTable found table → value ≡ of table

-- whichever table is kept was given back, and all else stays
pub record DestroysTable (addr : ℕ) (old new : Heap) : Type 0 where
  pub kind : IsKind (old.blocks addr) kinds.Table
  pub changes : (table : TableRow) → KeepsTable (old.blocks addr) table →
      Changes old.blocks new.blocks (table_entries addr table) []
  pub made : Made (Gave addr ∷ []) old new

-- why it isn't: for the address, and all is as before; or there is no log room, and no move was made; or a fault
abbrev pub DestroyStops : ℕ → Heap → Heap → Stop → Type 0
DestroyStops addr old new (Refused (refusals.BadAddress bad)) =
    Misses (old.blocks addr) addr kinds.Table (Refused (refusals.BadAddress bad)) × (new ≡ old)
DestroyStops addr old new (Refused (refusals.WrongKind bad number)) =
    Misses (old.blocks addr) addr kinds.Table (Refused (refusals.WrongKind bad number)) × (new ≡ old)
DestroyStops addr old new (Refused refusal) =
    IsKind (old.blocks addr) kinds.Table × OnlyUnmoved old new (Refused refusal)
DestroyStops addr old new stop = OnlyFault stop
