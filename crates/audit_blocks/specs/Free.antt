-- What an audit asks of the lists of free blocks.
use Rattle.std.specs.Prelude.{◌≡◌, ◌≤◌, ◌<◌, ◌==◌, ◌+◌, ◌-◌, ◌*◌, ◌⊎◌, ℕ, false, cond, nat_le, List, ◌∷◌, ◌++◌, Contains, map, count_by}
use Rattle.std.specs.List.{All}
use Rattle.sdr_base.specs.KeptLarge.{Links, large_place}
use Rattle.sdr_base.specs.KeptPools.{ChainFrom, list_place}
use Rattle.sdr_base.specs.LargePool.{order_of}
use Rattle.sdr_base.specs.Pools.{PoolBlock, is_free_of}
use Rattle.sdr_base.specs.declared.control.TheConstants.{LARGE_LISTS, MOST_ORDER, MOST_SMALL, SMALL_LISTS}
use Rattle.sdr_base.specs.declared.line.TheConstants.{WORD}
use Rattle.sdr_base.specs.Entries.{AreOnce}

-- The list of free small blocks of so many words is right: it ends, and reaches free small blocks of so many words alone, each
-- once.
pub record IsSmallList (bytes : List ℕ) (small : List PoolBlock) (words : ℕ) : Type 0 where
  pub addrs : List ℕ
  pub chain : ChainFrom bytes (list_place words) addrs
  pub free : All (λ addr. 0 < count_by (is_free_of words addr) small) addrs
  pub once : AreOnce addrs

-- The list of free large blocks of an order is right: it ends, with the right previous links, and reaches free large blocks of
-- that order alone, each once.
pub record IsLargeList (bytes : List ℕ) (large : List PoolBlock) (order : ℕ) : Type 0 where
  pub blocks : List (ℕ × ℕ)
  pub links : Links bytes (large_place order) 0 blocks
  pub free : All (λ block. 0 < count_by (is_free_of block.1 block.0) large) blocks
  pub order_is : All (λ block. order_of block.1 ≡ order) blocks
  pub once : AreOnce (map (λ block. block.0) blocks)

-- the list whose front stands in this control word is right
abbrev pub IsListIn : List ℕ → List PoolBlock → List PoolBlock → ℕ → Type 0
IsListIn bytes small large word =
    cond (nat_le word (SMALL_LISTS + MOST_SMALL))
    (IsSmallList bytes small (word - SMALL_LISTS))
    (IsLargeList bytes large (word - LARGE_LISTS))

-- a list's front stands in this control word
pub record IsListWord (word : ℕ) : Type 0 where
  pub first : SMALL_LISTS + 1 ≤ word
  pub last : word ≤ LARGE_LISTS + MOST_ORDER

-- all lists are right whose fronts stand in control words before this one
abbrev pub ListsBefore : List ℕ → List PoolBlock → List PoolBlock → ℕ → Type 0
ListsBefore bytes small large word =
    (other : ℕ) → IsListWord other → other < word → IsListIn bytes small large other

-- the first list that is wrong is that of the control word at a place
pub record IsWrongList (bytes : List ℕ) (small large : List PoolBlock) (place : ℕ) : Type 0 where
  pub word : ℕ
  pub at : place ≡ WORD * word
  pub of_list : IsListWord word
  pub before : ListsBefore bytes small large word
  pub wrong : IsListIn bytes small large word → ⊥

-- a free small block is reached by the list of its words
pub record SmallReached (bytes : List ℕ) (small : List PoolBlock) (block : PoolBlock) : Type 0 where
  pub list : IsSmallList bytes small block.words
  pub reached : Contains list.addrs block.addr

-- a free large block is reached by the list of its order
pub record LargeReached (bytes : List ℕ) (large : List PoolBlock) (block : PoolBlock) : Type 0 where
  pub list : IsLargeList bytes large (order_of block.words)
  pub reached : Contains list.blocks (block.addr, block.words)

-- each of these blocks is in use, or is reached
abbrev pub AllReached : (PoolBlock → Type 0) → List PoolBlock → Type 0
AllReached Reached blocks = All (λ (block : PoolBlock). (block.used ≡ false) → Reached block) blocks

-- all lists are right, and reach each free block
pub record AreListed (bytes : List ℕ) (small large : List PoolBlock) : Type 0 where
  pub lists : (word : ℕ) → IsListWord word → IsListIn bytes small large word
  pub below : AllReached (SmallReached bytes small) small
  pub above : AllReached (LargeReached bytes large) large

-- among these blocks this is the first free one that no list reaches
pub record FirstLost (Reached : PoolBlock → Type 0) (blocks : List PoolBlock) (addr : ℕ) : Type 0 where
  pub before : List PoolBlock
  pub block : PoolBlock
  pub behind : List PoolBlock
  pub whole : blocks ≡ before ++ block ∷ behind
  pub found : AllReached Reached before
  pub free : block.used ≡ false
  pub lost : Reached block → ⊥
  pub at : addr ≡ block.addr

-- all lists are right, and the first free block that none reaches has this address
pub record IsLost (bytes : List ℕ) (small large : List PoolBlock) (addr : ℕ) : Type 0 where
  pub lists : (word : ℕ) → IsListWord word → IsListIn bytes small large word
  pub first :
      FirstLost (SmallReached bytes small) small addr
      ⊎ (AllReached (SmallReached bytes small) small × FirstLost (LargeReached bytes large) large addr)

-- what is wrong first with the lists of free blocks: a list, at its control word, or else a free block that none reaches, at its
-- address
abbrev pub IsWrongFree : List ℕ → List PoolBlock → List PoolBlock → ℕ → Type 0
IsWrongFree bytes small large place =
    IsWrongList bytes small large place ⊎ IsLost bytes small large place
