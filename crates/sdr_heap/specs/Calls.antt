-- What the steps of a heap's calls do to the bytes of its region.
use Rattle.std.specs.Prelude.{◌≡◌, ◌≢◌, ◌≤◌, ◌<◌, ℕ, count_by, List, length, replicate, Option, Some, None}
use Rattle.std.specs.Option.{option_or}
use Rattle.sdr_base.specs.Blocks.{overwritten, with_block}
use Rattle.sdr_base.specs.KeptLarge.{KeepsLarge, is_used_of}
use Rattle.sdr_base.specs.KeptPools.{KeepsSmall}
use Rattle.sdr_base.specs.LargePool.{take_large}
use Rattle.sdr_base.specs.Pools.{Pools}
use Rattle.sdr_base.specs.Rules.{IsInUse, give_of, words_for}
use Rattle.sdr_base.specs.SmallPool.{Taken, take_small}
use Rattle.sdr_base.specs.declared.kind.Kind.{Kind}
use Rattle.sdr_base.specs.KeptHeap.{KeepsHeap, LabelledBut, block_in, root_in}

-- all blocks but the one at an address, and the control words that belong to what they keep, are as before
pub record KeepsBeside (addr : ℕ) (old new : List ℕ) : Type 0 where
  pub size : length new ≡ length old
  pub blocks : (other : ℕ) → other ≢ addr → block_in new other ≡ block_in old other
  pub roots : root_in new ≡ root_in old

-- a block of so many words, or more in the large pool, is in use at an address, and has no label yet
pub record IsBare (words addr : ℕ) (bytes : List ℕ) (P : Pools) : Type 0 where
  pub small : KeepsSmall bytes P
  pub large : KeepsLarge bytes P
  pub others : LabelledBut addr bytes P
  pub used : IsInUse P addr
  pub exact : (has : ℕ) → 0 < count_by (is_used_of has addr) P.small → has ≡ words
  pub enough : (has : ℕ) → 0 < count_by (is_used_of has addr) P.large → words ≤ has

-- the block that the rule gives was chosen, at an address where none was in use
pub record ChoosesBlock (words : ℕ) (taken : Taken) (found : Option ℕ) (old new : List ℕ) : Type 0 where
  pub addr : found ≡ Some taken.addr
  pub bare : IsBare words taken.addr new taken.pools
  pub fresh : block_in old taken.addr ≡ None
  pub beside : KeepsBeside taken.addr old new

-- the answer is what the rule gives; where it gives none, nothing changes
abbrev pub ChoosesBy : ℕ → Option Taken → Option ℕ → List ℕ → List ℕ → Type 0
ChoosesBy words None found old new = (found ≡ None) × (new ≡ old)
ChoosesBy words (Some taken) found old new = ChoosesBlock words taken found old new

-- so it is for whatever pools the heap has
pub record Chooses (words : ℕ) (found : Option ℕ) (old new : List ℕ) : Type 0 where
  pub rule : (P : Pools) → KeepsHeap old P →
      ChoosesBy words (option_or (take_small P words) (take_large P words)) found old new

-- the block was given back, whatever pools the heap has
pub record GivesBack (addr : ℕ) (old new : List ℕ) : Type 0 where
  pub rule : (P : Pools) → KeepsHeap old P → KeepsHeap new (give_of P addr)
  pub used : (P : Pools) → KeepsHeap old P → IsInUse P addr
  pub blocks : block_in new ≡ with_block (block_in old) addr None
  pub roots : root_in new ≡ root_in old

-- bytes were written into a block, whatever pools the heap has
pub record WritesBlock (addr place : ℕ) (from : List ℕ) (old new : List ℕ) : Type 0 where
  pub kept : (P : Pools) → KeepsHeap old P → KeepsHeap new P
  pub blocks : block_in new ≡ with_block (block_in old) addr (overwritten (block_in old addr) place from)
  pub roots : root_in new ≡ root_in old

-- a block that needs so many bytes is in use at an address, and has no label yet, whatever the pools are
pub record IsSomeBare (need addr : ℕ) (bytes : List ℕ) : Type 0 where
  pub pools : Pools
  pub bare : IsBare (words_for need) addr bytes pools

-- the block has got its kind and so many zero bytes, whatever pools the heap has
pub record Labels (addr : ℕ) (kind : Kind) (need : ℕ) (old new : List ℕ) : Type 0 where
  pub kept : (P : Pools) → IsBare (words_for need) addr old P → KeepsHeap new P
  pub here : block_in new addr ≡ Some (record { kind = kind; bytes = replicate need 0 })
  pub beside : KeepsBeside addr old new
