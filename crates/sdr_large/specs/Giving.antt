-- What each step of giving a block back does to the pools that the bytes hold.
use Rattle.std.specs.Prelude.{◌≡◌, ◌≤◌, ◌<◌, ◌+◌, ◌*◌, ℕ, List, count_by}
use Rattle.sdr_base.specs.Pools.{Pools, IsUsed, is_free_of}
use Rattle.sdr_base.specs.LargePool.{extent_of}
use Rattle.sdr_base.specs.LargeGiving.{Loose, loosened, is_free_at, is_free_below, joined_below, joined_above, large_freed}
use Rattle.sdr_base.specs.KeptLarge.{HoldsLarge, KeepsLarge}
use Rattle.sdr_base.specs.declared.line.TheConstants.{WORD}
use Rattle.sdr_large.specs.declared.block.Block.{Block}
use Rattle.sdr_large.specs.Gap.{TilesAround, Steps}

-- the block fills the gap of its pools; no two free blocks of these touch, and the one at `high` isn't free
pub record IsLoose (loose : Loose) (from to : ℕ) : Type 0 where
  pub at : loose.addr ≡ from + 2 * WORD
  pub ends : from + extent_of loose.words ≡ to
  pub some : 1 ≤ loose.words
  pub tiles : TilesAround loose.pools from to
  pub apart : (words addr : ℕ) → 0 < count_by (is_free_of words addr) loose.pools.large →
      count_by (is_free_at (addr + extent_of words)) loose.pools.large ≡ 0
  pub edge : count_by (is_free_at (loose.pools.high + 2 * WORD)) loose.pools.large ≡ 0

-- no free block ends where it begins, and none begins where it ends
pub record StandsAlone (loose : Loose) : Type 0 where
  pub below : count_by (is_free_below loose.addr) loose.pools.large ≡ 0
  pub above : count_by (is_free_at (loose.addr + extent_of loose.words)) loose.pools.large ≡ 0

-- the code has a loose block of the pools that the bytes hold
pub record Names (block : Block) (loose : Loose) : Type 0 where
  pub addr : block.addr ≡ loose.addr
  pub words : block.words ≡ loose.words

-- the bytes hold the pools beside a loose block, whatever they are
pub record HoldsLoose (block : Block) (bytes : List ℕ) : Type 0 where
  pub loose : Loose
  pub from : ℕ
  pub to : ℕ
  pub is : IsLoose loose from to
  pub names : Names block loose
  pub holds : HoldsLarge bytes loose.pools

-- a block in use is loose
pub record Loosens (addr : ℕ) (block : Block) (old new : List ℕ) : Type 0 where
  pub rule : (P : Pools) → KeepsLarge old P → IsUsed P.large addr →
      Names block (loosened P addr) × Steps P (loosened P addr).pools addr old new

-- it was joined with the free block below, if there is one
pub record JoinsBelow (block joined : Block) (old new : List ℕ) : Type 0 where
  pub rule : (loose : Loose) (from to : ℕ) → IsLoose loose from to → HoldsLarge old loose.pools → Names block loose →
      Names joined (joined_below loose) × Steps loose.pools (joined_below loose).pools 0 old new

-- it was joined with the free block above
pub record JoinsAbove (block joined : Block) (old new : List ℕ) : Type 0 where
  pub rule : (loose : Loose) (from to : ℕ) → IsLoose loose from to → HoldsLarge old loose.pools → Names block loose →
      Names joined (joined_above loose) × Steps loose.pools (joined_above loose).pools 0 old new

-- it is free, or unassigned
pub record SetsFree (block : Block) (old new : List ℕ) : Type 0 where
  pub rule : (loose : Loose) (from to : ℕ) → IsLoose loose from to → HoldsLarge old loose.pools → Names block loose →
      Steps loose.pools (large_freed loose) 0 old new
