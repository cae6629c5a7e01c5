-- A hash that is opened at one bucket: the hash's own block, and that bucket's entries.
use Rattle.std.specs.Prelude.{◌≡◌, ◌≤◌, ◌<◌, ◌+◌, ◌^◌, ℕ, List, [], ◌∷◌, ◌++◌, length, set, get_or, All}
use Rattle.sdr_base.specs.Blocks.{Block, Blocks}
use Rattle.sdr_base.specs.Entries.{Entries, BlocksAre}
use Rattle.sdr_base.specs.Hashes.{HashItem, HashRow, bucket_entries, item_addr}
use Rattle.sdr_base.specs.Linked.{first_of}
use Rattle.sdr_base.specs.Words.{layout}
use Rattle.sdr_base.specs.declared.kind.Kind.TheVariants as kinds
use Rattle.sdr_hash.specs.Buckets.{bucket_of}
use Rattle.sdr_hash.specs.Calls.{IsKeyOf}
use Rattle.sdr_hash.specs.Kept.{ItemFits, KeepsHash}
use Rattle.sdr_hash.specs.declared.bucket.Link.{Link}
use Rattle.sdr_base.specs.declared.limits.TheConstants.{LONGEST_KEY}

-- the block of a hash of these words
abbrev pub words_block : List ℕ → Block
words_block words = record { kind = kinds.Hash; bytes = layout words [] }

-- the hash's block and the entries of a bucket
abbrev pub opened_entries : ℕ → List ℕ → List HashItem → Entries
opened_entries hash words bucket = (hash, words_block words) ∷ bucket_entries bucket

-- the words of a hash with these entries in a bucket, and so many in all
abbrev pub with_front : List ℕ → ℕ → List HashItem → ℕ → List ℕ
with_front words field bucket count = set (set words field (first_of item_addr 0 bucket)) 2 count

-- the keys are of a length that is allowed, the bucket's word is among those of the hash behind the count, and the
-- entries fit
pub record IsOpened (key_length field : ℕ) (words : List ℕ) (bucket : List HashItem) : Type 0 where
  pub short : key_length ≤ LONGEST_KEY
  pub behind : 3 ≤ field
  pub inside : field < length words
  pub few : length words < 2 ^ 32
  pub front : get_or words field 0 ≡ first_of item_addr 0 bucket
  pub counted : length bucket ≤ get_or words 2 0
  pub small : get_or words 2 0 < 2 ^ 32
  pub fits : All (ItemFits key_length) bucket

-- the bucket that begins at this link is kept among these blocks
pub record KeepsBucket (blocks : Blocks) (front : Link) (key_length : ℕ) (bucket : List HashItem) : Type 0 where
  pub words : List ℕ
  pub rest : Entries
  pub stands : BlocksAre blocks (opened_entries front.addr words bucket ++ rest)
  pub opened : IsOpened key_length front.field words bucket

-- some bucket is kept there, of keys of so many bytes
pub record SomeBucket (blocks : Blocks) (front : Link) (key_length : ℕ) : Type 0 where
  pub bucket : List HashItem
  pub keeps : KeepsBucket blocks front key_length bucket

-- the key is as long as the hash's keys, and its bucket begins at this link
pub record FrontsBucket (blocks : Blocks) (hash : ℕ) (key : List ℕ) (front : Link) : Type 0 where
  pub is : IsKeyOf blocks hash key
  pub addr : front.addr ≡ hash
  pub field : (row : HashRow) → KeepsHash blocks hash row → front.field ≡ 3 + bucket_of (length row.buckets) key
