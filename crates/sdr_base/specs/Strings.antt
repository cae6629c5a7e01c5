-- The block that keeps a string.
use Rattle.std.specs.Prelude.{◌≡◌, ◌≤◌, ℕ, List, [], ◌∷◌, length, Option, Some}
use Rattle.sdr_base.specs.Blocks.{Block}
use Rattle.sdr_base.specs.Entries.{Entries}
use Rattle.sdr_base.specs.declared.kind.Kind.TheVariants as kinds

-- the block of a string: a byte with its length, and its text
abbrev pub string_block : List ℕ → Block
string_block text = record { kind = kinds.Text; bytes = length text ∷ text }

-- the blocks of a string: one
abbrev pub string_entries : ℕ → List ℕ → Entries
string_entries addr text = (addr, string_block text) ∷ []

-- what stands at an address is the block of this string
pub record KeepsString (found : Option Block) (text : List ℕ) : Type 0 where
  pub block : found ≡ Some (string_block text)
  pub short : length text ≤ 255
