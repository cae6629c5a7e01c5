-- What each step of a call does to the pools that the bytes hold.
use Rattle.std.specs.Prelude.{◌≡◌, ◌≤◌, ◌<◌, ◌==◌, ◌+◌, ◌-◌, ◌*◌, ◌^◌, ℕ, List, cond, Option, option_map, length}
use Rattle.std.specs.List.{find}
use Rattle.sdr_base.specs.Pools.{Pools}
use Rattle.sdr_base.specs.LargePool.{extent_of, has_words, front_from, found_large, with_unlinked, with_used_large}
use Rattle.sdr_base.specs.LargePool.{with_free_large}
use Rattle.sdr_base.specs.KeptLarge.{HoldsLarge, KeepsLarge, large_place}
use Rattle.sdr_base.specs.Stored.{with_number, leader_kind, leader_words, leader_length}
use Rattle.sdr_base.specs.declared.line.TheConstants.{WORD}
use Rattle.sdr_base.specs.declared.control.TheConstants.{MOST_ORDER}
use Rattle.sdr_large.specs.declared.block.Block.{Block}
use Rattle.sdr_large.specs.Gap.{TilesAround, IsFree, Steps}

-- a block as the lists name it
abbrev pub named : Option Block → Option (ℕ × ℕ)
named block = option_map (λ b. (b.addr, b.words)) block

-- the first block of the list of an order that has so many words, for whatever pools the bytes keep
pub record FindsIn (order words : ℕ) (found : Option Block) (bytes : List ℕ) : Type 0 where
  pub rule : (P : Pools) → KeepsLarge bytes P → named found ≡ find (has_words words) (P.large_lists order)

-- the front of the first higher list that isn't empty
pub record FindsAbove (order : ℕ) (found : Option Block) (bytes : List ℕ) : Type 0 where
  pub rule : (P : Pools) → KeepsLarge bytes P →
      named found ≡ front_from P.large_lists (order + 1) (MOST_ORDER - order)

-- the block that the rule finds
pub record Finds (words : ℕ) (found : Option Block) (bytes : List ℕ) : Type 0 where
  pub rule : (P : Pools) → KeepsLarge bytes P → named found ≡ found_large P words

-- the block at an address has the words that its leader names
pub record HasLeader (block : Block) (addr : ℕ) (bytes : List ℕ) : Type 0 where
  pub addr_is : block.addr ≡ addr
  pub words_are : block.words ≡ leader_words (addr - 2 * WORD) bytes

-- the bytes hold a pool in which this block is free
pub record HoldsFree (words addr : ℕ) (bytes : List ℕ) : Type 0 where
  pub pools : Pools
  pub from : ℕ
  pub to : ℕ
  pub tiles : TilesAround pools from to
  pub holds : HoldsLarge bytes pools
  pub free : IsFree pools words addr

-- the bytes hold a pool with a gap in which a block of so many words begins
pub record HoldsGap (words addr : ℕ) (bytes : List ℕ) : Type 0 where
  pub pools : Pools
  pub from : ℕ
  pub to : ℕ
  pub tiles : TilesAround pools from to
  pub holds : HoldsLarge bytes pools
  pub at : addr ≡ from + 2 * WORD
  pub fits : from + extent_of words ≤ to
  pub some : 1 ≤ words

-- where the link to a block stands that comes behind another in the list of an order, or at its front behind 0
abbrev pub link_place : ℕ → ℕ → ℕ
link_place order before = cond (before == 0) (large_place order) (before - WORD)

-- a block, or 0, is the one before the next, where there is a next
abbrev pub with_before : ℕ → ℕ → List ℕ → List ℕ
with_before next before bytes =
    cond (next == 0) bytes (with_number (next + WORD * leader_words (next - 2 * WORD) bytes) before bytes)

-- the words of the link back from a next lie within the bytes
pub record ReachesBack (next : ℕ) (bytes : List ℕ) : Type 0 where
  pub short : length bytes < 2 ^ 32
  pub least : 2 * WORD ≤ next
  pub leader : next ≤ length bytes
  pub inside : next + WORD * leader_words (next - 2 * WORD) bytes + WORD ≤ length bytes

-- a free block leaves the pool and its list
pub record Unlinks (words addr : ℕ) (old new : List ℕ) : Type 0 where
  pub rule : (P : Pools) (from to : ℕ) → TilesAround P from to → HoldsLarge old P → IsFree P words addr →
      Steps P (with_unlinked P addr words) 0 old new

-- a block in use comes to the low end of a gap
pub record PutsUsed (words addr : ℕ) (old new : List ℕ) : Type 0 where
  pub kind : leader_kind (addr - 2 * WORD) new ≡ 0
  pub length : leader_length (addr - 2 * WORD) new ≡ 0
  pub rule : (P : Pools) (from to : ℕ) → TilesAround P from to → HoldsLarge old P → addr ≡ from + 2 * WORD →
      from + extent_of words ≤ to → 1 ≤ words → Steps P (with_used_large P addr words) 0 old new

-- a free block comes to a gap, at the front of its list
pub record PutsFree (words addr : ℕ) (old new : List ℕ) : Type 0 where
  pub rule : (P : Pools) (from to : ℕ) → TilesAround P from to → HoldsLarge old P → addr ≡ from + 2 * WORD →
      from + extent_of words ≤ to → 1 ≤ words → Steps P (with_free_large P addr words) 0 old new
