-- The block that keeps a raw object.
use Rattle.std.specs.Prelude.{ℕ, List, [], ◌∷◌}
use Rattle.sdr_base.specs.Blocks.{Block}
use Rattle.sdr_base.specs.Entries.{Entries}
use Rattle.sdr_base.specs.Words.{layout}
use Rattle.sdr_base.specs.declared.kind.Kind.TheVariants as kinds

-- the block of a raw object: the address of the source that names it, 0 for none, and its bytes
abbrev pub raw_block : ℕ → List ℕ → Block
raw_block named_by bytes = record { kind = kinds.Raw; bytes = layout (named_by ∷ []) bytes }

-- the blocks of a raw object: one
abbrev pub raw_entries : ℕ → ℕ → List ℕ → Entries
raw_entries addr named_by bytes = (addr, raw_block named_by bytes) ∷ []
