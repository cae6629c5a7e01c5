-- The blocks that keep the catalogue: a chain of its entries, oldest first.
use Rattle.std.specs.Prelude.{ℕ, ◌-◌, List, [], ◌∷◌, ◌++◌, length, replicate}
use Rattle.sdr_base.specs.Blocks.{Block}
use Rattle.sdr_base.specs.Entries.{Entries}
use Rattle.sdr_base.specs.Linked.{linked}
use Rattle.sdr_base.specs.Words.{layout}
use Rattle.sdr_base.specs.declared.kind.Kind.TheVariants as kinds

-- an entry of the catalogue: its address, the type and the object, both the user's numbers, and the name
pub record NameRow : Type 0 where
  pub addr : ℕ
  pub type_number : ℕ
  pub object : ℕ
  pub name : List ℕ

-- where an entry of the catalogue stands
abbrev pub name_addr : NameRow → ℕ
name_addr row = row.addr

-- a name in 32 bytes: its length, the name, and zeros
abbrev pub name_bytes : List ℕ → List ℕ
name_bytes name = length name ∷ name ++ replicate (31 - length name) 0

-- the block of an entry: the next one, type, object and name
abbrev pub name_block : ℕ → ℕ → NameRow → Block
name_block previous next row =
    record { kind = kinds.Name; bytes = layout (next ∷ row.type_number ∷ row.object ∷ []) (name_bytes row.name) }

-- the blocks of the catalogue
abbrev pub catalogue_entries : List NameRow → Entries
catalogue_entries names = linked name_addr name_block 0 0 names
