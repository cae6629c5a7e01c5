-- A large pool with a gap, from which a block was taken out or into which one will come.
use Rattle.std.specs.Prelude.{◌≡◌, ◌≤◌, ◌<◌, ◌+◌, ◌-◌, ◌*◌, ◌%◌, ℕ, List, ◌++◌, length, get_or, count_by}
use Rattle.sdr_base.specs.Pools.{PoolBlock, Pools, HasBounds, is_free_of}
use Rattle.sdr_base.specs.KeptLarge.{FollowsLarge, ListsFree, HoldsLarge, StaysUsed, large_place}
use Rattle.sdr_base.specs.Stored.{start_bit}
use Rattle.sdr_base.specs.declared.line.TheConstants.{WORD, START_BITS}
use Rattle.sdr_base.specs.declared.control.TheConstants.{HIGH, MOST_ORDER}

-- blocks follow one another from a place to another but for a gap
pub record IsParted (high end : ℕ) (blocks : List PoolBlock) (from to : ℕ) : Type 0 where
  pub below : List PoolBlock
  pub above : List PoolBlock
  pub parts : blocks ≡ below ++ above
  pub first : FollowsLarge high below from
  pub gap : from ≤ to
  pub second : FollowsLarge to above end

-- the large blocks tile the heap from `high` to its end but for a gap, and the free ones are listed
pub record TilesAround (P : Pools) (from to : ℕ) : Type 0 where
  pub bounds : HasBounds P
  pub least : P.start ≤ P.low
  pub whole : P.high % WORD ≡ 0
  pub parted : IsParted P.high P.end P.large from to
  pub lists : ListsFree P

-- a free block of the pool
abbrev pub IsFree : Pools → ℕ → ℕ → Type 0
IsFree P words addr = 0 < count_by (is_free_of words addr) P.large

-- what lies below a place stays: all control words but `high` and the fronts of the large lists, all blocks
-- below `low`, and the start bits
pub record StaysBelow (start low high : ℕ) (old new : List ℕ) : Type 0 where
  pub size : length new ≡ length old
  pub front : (i : ℕ) → i < WORD * HIGH → get_or new i 0 ≡ get_or old i 0
  pub lists : (i : ℕ) → WORD * HIGH + WORD ≤ i → i < large_place 0 → get_or new i 0 ≡ get_or old i 0
  pub control : (i : ℕ) → large_place (1 + MOST_ORDER) ≤ i → i < START_BITS → get_or new i 0 ≡ get_or old i 0
  pub blocks : (i : ℕ) → start ≤ i → i < low → get_or new i 0 ≡ get_or old i 0
  pub bits : (word : ℕ) → word < 8 * (start - START_BITS) → WORD * word < high →
      start_bit word new ≡ start_bit word old

-- the bytes hold other pools from now on, and the small pool and the blocks in use but one stay
pub record Steps (P Q : Pools) (addr : ℕ) (old new : List ℕ) : Type 0 where
  pub holds : HoldsLarge new Q
  pub below : StaysBelow P.start P.low P.high old new
  pub used : StaysUsed P addr old new
