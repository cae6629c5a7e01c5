-- What the end of a hash comes to, and when it is refused.
use Rattle.std.specs.Prelude.{◌≡◌, ℕ, List, [], ◌∷◌, ◌++◌, map, flat_map, take, drop, sum_by, length, Option, Some, None}
use Rattle.sdr_base.specs.Blocks.{Block, IsKind}
use Rattle.sdr_base.specs.Entries.{Changes, Entries, BlocksAre}
use Rattle.sdr_base.specs.Hashes.{HashItem, HashRow, bucket_entries, hash_block, hash_entries, item_addr}
use Rattle.sdr_base.specs.Making.{GaveSome, Made, gave}
use Rattle.sdr_base.specs.Objects.{Heap, Misses, OnlyFault}
use Rattle.sdr_base.specs.Stored.{number_at}
use Rattle.sdr_base.specs.declared.kind.Kind.{Kind}
use Rattle.sdr_base.specs.declared.kind.Kind.TheVariants as kinds
use Rattle.sdr_base.specs.declared.refusal.Refusal.TheVariants as refusals
use Rattle.sdr_base.specs.declared.stop.Stop.{Stop}
use Rattle.sdr_base.specs.declared.stop.Stop.TheVariants.{Refused}
use Rattle.sdr_hash.specs.Kept.{HashFits, KeepsHash}

-- the addresses of the entries in these buckets, in order
abbrev pub addrs_in : List (List HashItem) → List ℕ
addrs_in buckets = flat_map (map item_addr) buckets

-- whichever hash is kept is gone with its entries: they were given back by bucket, front to back, and then the hash
pub record DestroysHash (hash : ℕ) (old new : Heap) : Type 0 where
  pub kind : IsKind (old.blocks hash) kinds.Hash
  pub changes : (row : HashRow) → KeepsHash old.blocks hash row → Changes old.blocks new.blocks (hash_entries hash row) []
  pub made : (row : HashRow) → KeepsHash old.blocks hash row → Made (gave (addrs_in row.buckets ++ hash ∷ [])) old new

-- there was no log room, and some first ones were given back
pub record DestroysSome (hash : ℕ) (old new : Heap) : Type 0 where
  pub kind : IsKind (old.blocks hash) kinds.Hash
  pub gave : (row : HashRow) → KeepsHash old.blocks hash row → GaveSome (addrs_in row.buckets ++ hash ∷ []) old new

-- why the hash isn't destroyed: for the address, and all is as before; or there is no log room; or a fault
abbrev pub DestroyStops : ℕ → Heap → Heap → Stop → Type 0
DestroyStops hash old new (Refused (refusals.BadAddress bad)) =
    Misses (old.blocks hash) hash kinds.Hash (Refused (refusals.BadAddress bad)) × (new ≡ old)
DestroyStops hash old new (Refused (refusals.WrongKind bad number)) =
    Misses (old.blocks hash) hash kinds.Hash (Refused (refusals.WrongKind bad number)) × (new ≡ old)
DestroyStops hash old new (Refused (refusals.LogFull lines room)) = DestroysSome hash old new
DestroyStops hash old new stop = OnlyFault stop

-- the count, where the kind is that of hashes
abbrev pub if_hash : Kind → ℕ → ℕ
if_hash kinds.Hash count = count
if_hash kind count = 0

-- how many entries the hash has that stands there, 0 where none does
abbrev pub entries_in : Option Block → ℕ
entries_in None = 0
entries_in (Some block) = if_hash block.kind (number_at 16 block.bytes)

-- so many buckets of a hash are gone, and so many entries are left
pub record BucketsLeft (old now : Heap) (hash : ℕ) (row : HashRow) (rest : Entries) (bucket left : ℕ) : Type 0 where
  pub stands : BlocksAre now.blocks
      ((hash, hash_block row) ∷ (flat_map bucket_entries (drop bucket row.buckets) ++ rest))
  pub counted : left ≡ sum_by length (drop bucket row.buckets)
  pub made : Made (gave (addrs_in (take bucket row.buckets))) old now

-- so it is with whichever hash is kept
pub record GivesBuckets (old now : Heap) (hash bucket left : ℕ) : Type 0 where
  pub gives : (row : HashRow) (rest : Entries) → BlocksAre old.blocks (hash_entries hash row ++ rest) → HashFits row →
      BucketsLeft old now hash row rest bucket left
