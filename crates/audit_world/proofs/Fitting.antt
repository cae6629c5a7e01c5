-- What the blocks of a heap that passes an audit tell of one another, in the words of the world that they tell.
use Rattle.std.specs.Prelude.{◌≡◌, ◌≤◌, ◌<◌, ◌+◌, ◌⊎◌, ℕ, true, length, All}
use Rattle.sdr_base.specs.Sources.{medium_number}
use Rattle.sdr_base.specs.declared.kind.Kind.TheVariants as kinds
use Rattle.sdr_base.specs.declared.layout.extent.TheConstants as extent
use Rattle.sdr_base.specs.declared.layout.hash.TheConstants as hash
use Rattle.sdr_base.specs.declared.layout.list.TheConstants as list
use Rattle.sdr_base.specs.declared.layout.source.TheConstants as source
use Rattle.sdr_base.specs.declared.medium.Medium.TheVariants as media
use Rattle.audit_owners.specs.Members.{members}
use Rattle.sdr_model.specs.HashSteps.{bucket_of}
use Rattle.sdr_model.specs.PartSteps.{part_end}
use Rattle.sdr_model.specs.Valid.{AreDistinct, keys_of, names_of}
use Rattle.sdr_model.specs.Zco.{extents_length}
use Rattle.audit_owners.specs.Rules.{is_source_of_raw}
use Rattle.audit_owners.specs.View.{View, is_kind, length_of, word_of}
use Rattle.audit_owners.specs.declared.owner.Owner.TheVariants as owners
use Rattle.audit_world.specs.Told.{bucket_told, hash_told, object_told, world_told}

-- The hash at an address tells how many entries it has. Each key is in its bucket and of the hash's key length, and none is there twice.
pub record IsRightHash (heap : View) (words addr : ℕ) : Type 0 where
  pub count : word_of (heap.blocks addr) hash.ENTRIES ≡ length (hash_told heap words addr).entries
  pub buckets : (bucket : ℕ) → bucket < (hash_told heap words addr).buckets →
      All (λ e. bucket_of (hash_told heap words addr).buckets e.key ≡ bucket) (bucket_told heap words addr bucket)
  pub lengths : All (λ key. length key ≡ (hash_told heap words addr).key_length) (keys_of (hash_told heap words addr))
  pub distinct : AreDistinct (keys_of (hash_told heap words addr))

-- The source at an address isn't flagged where it owns a raw object, and has an extent where it does or is flagged.
pub record IsRightSource (heap : View) (addr : ℕ) : Type 0 where
  pub unflagged : word_of (heap.blocks addr) source.MEDIUM ≡ medium_number media.Heap → word_of (heap.blocks addr) source.FLAG ≡ 0
  pub used : (word_of (heap.blocks addr) source.MEDIUM ≡ medium_number media.Heap) ⊎ (word_of (heap.blocks addr) source.FLAG ≡ 1) →
      1 ≤ word_of (heap.blocks addr) source.INBOUND + word_of (heap.blocks addr) source.OUTBOUND

-- the extent at an address has a byte, and lies inside its source
pub record IsRightExtent (heap : View) (addr : ℕ) : Type 0 where
  pub some : 1 ≤ word_of (heap.blocks addr) extent.LENGTH
  pub inside :
      word_of (heap.blocks addr) extent.OFFSET + word_of (heap.blocks addr) extent.LENGTH
      ≤ word_of (heap.blocks (word_of (heap.blocks addr) extent.SOURCE)) source.LENGTH

-- Lists and hashes tell how many they hold, keys and names are distinct, a source of a raw object tells its length, extents lie inside
-- their sources, and parts inside their extents.
pub record AreFitting (heap : View) (words : ℕ) : Type 0 where
  pub lists : (addr : ℕ) → is_kind kinds.List (heap.blocks addr) ≡ true →
      word_of (heap.blocks addr) list.LENGTH ≡ length (members heap words (owners.List addr))
  pub hashes : (addr : ℕ) → is_kind kinds.Hash (heap.blocks addr) ≡ true → IsRightHash heap words addr
  pub names : AreDistinct (names_of (world_told heap words))
  pub sources : (addr : ℕ) → is_kind kinds.Source (heap.blocks addr) ≡ true → IsRightSource heap addr
  pub raws : (addr : ℕ) → is_source_of_raw (heap.blocks addr) ≡ true →
      length_of (heap.blocks (word_of (heap.blocks addr) source.SUBJECT)) ≡ 8 + word_of (heap.blocks addr) source.LENGTH
  pub extents : (addr : ℕ) → is_kind kinds.Extent (heap.blocks addr) ≡ true → IsRightExtent heap addr
  pub parts : (addr : ℕ) → is_kind kinds.Object (heap.blocks addr) ≡ true →
      part_end (object_told heap words addr) ≤ extents_length (object_told heap words addr).extents
