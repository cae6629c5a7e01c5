-- The blocks that keep a hash: the hash's own, and a chain of entries for each bucket.
use Rattle.std.specs.Prelude.{ℕ, List, [], ◌∷◌, length, map, sum_by, flat_map}
use Rattle.sdr_base.specs.Blocks.{Block}
use Rattle.sdr_base.specs.Entries.{Entries}
use Rattle.sdr_base.specs.Linked.{first_of, linked}
use Rattle.sdr_base.specs.Words.{layout}
use Rattle.sdr_base.specs.declared.kind.Kind.TheVariants as kinds

-- an entry of a hash: its address, its value and its key
pub record HashItem : Type 0 where
  pub addr : ℕ
  pub value : ℕ
  pub key : List ℕ

-- a hash: the bytes of a key, and the entries of each bucket, the newest first
pub record HashRow : Type 0 where
  pub key_length : ℕ
  pub buckets : List (List HashItem)

-- where an entry stands
abbrev pub item_addr : HashItem → ℕ
item_addr item = item.addr

-- the block of a hash: key length, buckets, entries, and the first entry of each bucket
abbrev pub hash_block : HashRow → Block
hash_block row = record {
  kind = kinds.Hash;
  bytes =
      layout
      (row.key_length ∷ length row.buckets ∷ sum_by length row.buckets ∷ map (first_of item_addr 0) row.buckets) [];
}

-- the block of an entry: the next one in its bucket, its value and its key
abbrev pub item_block : ℕ → ℕ → HashItem → Block
item_block previous next item =
    record { kind = kinds.HashEntry; bytes = layout (next ∷ item.value ∷ []) item.key }

-- the entries of a bucket
abbrev pub bucket_entries : List HashItem → Entries
bucket_entries bucket = linked item_addr item_block 0 0 bucket

-- the blocks of a hash
abbrev pub hash_entries : ℕ → HashRow → Entries
hash_entries addr row = (addr, hash_block row) ∷ flat_map bucket_entries row.buckets
