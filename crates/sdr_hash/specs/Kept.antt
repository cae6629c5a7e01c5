-- Hashes that are kept among blocks, and how large they may be.
use Rattle.std.specs.Prelude.{◌≡◌, ◌≤◌, ◌<◌, ◌^◌, ◌⊎◌, ℕ, ◌++◌, length, All}
use Rattle.sdr_base.specs.Blocks.{Blocks, IsKind}
use Rattle.sdr_base.specs.Entries.{Entries, BlocksAre}
use Rattle.sdr_base.specs.Hashes.{HashItem, HashRow, hash_entries}
use Rattle.sdr_base.specs.declared.kind.Kind.TheVariants as kinds
use Rattle.sdr_base.specs.declared.refusal.Refusal.TheVariants as refusals
use Rattle.sdr_base.specs.declared.stop.Stop.{Stop}
use Rattle.sdr_base.specs.declared.stop.Stop.TheVariants.{Refused}
use Rattle.sdr_base.specs.declared.limits.TheConstants.{LONGEST_KEY, MOST_BUCKETS}

-- a key has a byte at least, and not too many
pub record IsKeyLength (bytes : ℕ) : Type 0 where
  pub some : 1 ≤ bytes
  pub short : bytes ≤ LONGEST_KEY

-- a hash has a bucket at least, and not too many
pub record IsCount (buckets : ℕ) : Type 0 where
  pub some : 1 ≤ buckets
  pub few : buckets ≤ MOST_BUCKETS

-- a hash may have keys of so many bytes, and so many buckets
pub record IsShape (key_length buckets : ℕ) : Type 0 where
  pub key : IsKeyLength key_length
  pub count : IsCount buckets

-- it is refused for the bytes of a key, or else for the buckets
abbrev pub IsNoShape : ℕ → ℕ → Stop → Type 0
IsNoShape key_length buckets (Refused (refusals.BadKeyLength bytes want)) =
    (bytes ≡ key_length) × (want ≡ LONGEST_KEY) × ((key_length ≡ 0) ⊎ (LONGEST_KEY < key_length))
IsNoShape key_length buckets (Refused (refusals.BadRow row rows)) =
    (row ≡ buckets) × (rows ≡ MOST_BUCKETS) × IsKeyLength key_length × ((buckets ≡ 0) ⊎ (MOST_BUCKETS < buckets))
IsNoShape key_length buckets stop = ⊥

-- the numbers of an entry fit their words, and its key has so many bytes
pub record ItemFits (key_length : ℕ) (item : HashItem) : Type 0 where
  pub addr : item.addr < 2 ^ 64
  pub value : item.value < 2 ^ 64
  pub key : length item.key ≡ key_length

-- a hash is of a shape that is allowed, and its entries fit
pub record HashFits (row : HashRow) : Type 0 where
  pub shape : IsShape row.key_length (length row.buckets)
  pub items : All (All (ItemFits row.key_length)) row.buckets

-- the hash is kept among these blocks
pub record KeepsHash (blocks : Blocks) (hash : ℕ) (row : HashRow) : Type 0 where
  pub rest : Entries
  pub stands : BlocksAre blocks (hash_entries hash row ++ rest)
  pub fits : HashFits row

-- some hash is kept there
pub record SomeHash (blocks : Blocks) (hash : ℕ) : Type 0 where
  pub row : HashRow
  pub keeps : KeepsHash blocks hash row

-- where a hash's block stands, a hash is kept
abbrev pub IsHash : Blocks → ℕ → Type 0
IsHash blocks hash = IsKind (blocks hash) kinds.Hash → SomeHash blocks hash
