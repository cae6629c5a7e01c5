-- What the calls of the large pool do to the pools that the bytes keep.
use Rattle.std.specs.Prelude.{◌≡◌, ◌≢◌, ◌≤◌, ◌<◌, count_by, ◌-◌, ◌*◌, ℕ, List, Option, Some, None, ⊤}
use Rattle.sdr_base.specs.Pools.{Pools, IsUsed}
use Rattle.sdr_base.specs.SmallPool.{Taken}
use Rattle.sdr_base.specs.LargeGiving.{give_large}
use Rattle.sdr_base.specs.LargePool.{with_cut, take_found, take_large}
use Rattle.sdr_base.specs.KeptLarge.{KeepsLarge, StaysSmall, StaysUsed, is_used_of}
use Rattle.sdr_base.specs.Stored.{leader_kind, leader_length}
use Rattle.sdr_base.specs.declared.line.TheConstants.{WORD}
use Rattle.sdr_large.specs.Gap.{IsFree}

-- the bytes keep other pools from now on, and what the small pool stands on and the blocks in use but one stay,
-- which go on being in use
pub record Becomes (P Q : Pools) (addr : ℕ) (old new : List ℕ) : Type 0 where
  pub keeps : KeepsLarge new Q
  pub still : (words other : ℕ) → 0 < count_by (is_used_of words other) P.large → other ≢ addr →
      0 < count_by (is_used_of words other) Q.large
  pub small : StaysSmall P Q old new
  pub others : StaysUsed P addr old new

-- a block is answered: the bytes keep the pools in which it is in use, and its leader has kind 0 and length 0
pub record TakesBlock (P : Pools) (taken : Taken) (found : Option ℕ) (old new : List ℕ) : Type 0 where
  pub addr : found ≡ Some taken.addr
  pub used : IsUsed taken.pools.large taken.addr
  pub becomes : Becomes P taken.pools taken.addr old new
  pub kind : leader_kind (taken.addr - 2 * WORD) new ≡ 0
  pub length : leader_length (taken.addr - 2 * WORD) new ≡ 0

-- the answer is what the rule gives; where it gives none, nothing changes
abbrev pub TakesBy : Pools → Option Taken → Option ℕ → List ℕ → List ℕ → Type 0
TakesBy P None found old new = (found ≡ None) × (new ≡ old)
TakesBy P (Some taken) found old new = TakesBlock P taken found old new

-- so it is for whatever pools the bytes keep
pub record TakesLarge (words : ℕ) (found : Option ℕ) (old new : List ℕ) : Type 0 where
  pub rule : (P : Pools) → KeepsLarge old P → TakesBy P (take_large P words) found old new

-- the bytes keep a large pool in which this block is in use
pub record KeepsUsedLarge (addr : ℕ) (bytes : List ℕ) : Type 0 where
  pub pools : Pools
  pub keeps : KeepsLarge bytes pools
  pub used : IsUsed pools.large addr

-- a block in use goes on being in use, but for one at an address
pub record KeepsOthers (addr : ℕ) (old new : List ℕ) : Type 0 where
  pub still : (other : ℕ) → other ≢ addr → KeepsUsedLarge other old → KeepsUsedLarge other new

-- a block that was answered can be given back
abbrev pub IsGiveable : Option ℕ → List ℕ → Type 0
IsGiveable None bytes = ⊤
IsGiveable (Some addr) bytes = KeepsUsedLarge addr bytes

-- the block is back, for whatever pools the bytes keep
pub record GivesLarge (addr : ℕ) (old new : List ℕ) : Type 0 where
  pub rule : (P : Pools) → KeepsLarge old P → IsUsed P.large addr → Becomes P (give_large P addr) addr old new

-- the free block that was found can be cut for so many words
pub record CanCut (words has addr : ℕ) (bytes : List ℕ) : Type 0 where
  pub pools : Pools
  pub keeps : KeepsLarge bytes pools
  pub free : IsFree pools has addr
  pub some : 1 ≤ words
  pub enough : words ≤ has

-- so many words are cut from it
pub record Cuts (words has addr : ℕ) (old new : List ℕ) : Type 0 where
  pub rule : (P : Pools) → KeepsLarge old P → IsFree P has addr → 1 ≤ words → words ≤ has →
      TakesBlock P (record { addr = addr; pools = with_cut P words (addr, has) }) (Some addr) old new

-- a new block at `high` is answered where it fits
pub record TakesNew (words : ℕ) (found : Option ℕ) (old new : List ℕ) : Type 0 where
  pub rule : (P : Pools) → KeepsLarge old P → 1 ≤ words → TakesBy P (take_found P words None) found old new
