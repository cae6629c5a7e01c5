-- The pools that the control words, leaders and links of a heap tell.
use Rattle.std.specs.Prelude.{◌==◌, ◌+◌, ◌-◌, ◌*◌, ◌&&◌, ℕ, zero, suc, cond, nat_le, List, [], ◌∷◌, length, map}
use Rattle.sdr_base.specs.KeptLarge.{large_place}
use Rattle.sdr_base.specs.KeptPools.{list_place}
use Rattle.sdr_base.specs.LargePool.{extent_of}
use Rattle.sdr_base.specs.Pools.{PoolBlock, Pools}
use Rattle.sdr_base.specs.Stored.{leader_words, number_at}
use Rattle.sdr_base.specs.declared.control.TheConstants.{HIGH, LOW, MOST_ORDER, MOST_SMALL, START}
use Rattle.sdr_base.specs.declared.line.TheConstants.{WORD}
use Rattle.audit_blocks.specs.Control.{control_word}
use Rattle.audit_blocks.specs.Walk.{large_at, small_at}

-- the blocks that follow one another from a place to another, so many at most: a block by the place of its leader, and the
-- bytes from there to the next leader by the words of the block
unfoldable pub blocks_between : (ℕ → PoolBlock) → (ℕ → ℕ) → ℕ → ℕ → ℕ → List PoolBlock
blocks_between led size to zero from = []
blocks_between led size to (suc most) from =
    cond (nat_le to from) [] (led from ∷ blocks_between led size to most (from + size (led from).words))

-- the addresses to which links lead, so many at most: the number at a place is the first, the number so far before an address
-- is the next, and 0 is none
unfoldable pub linked_from : List ℕ → ℕ → ℕ → ℕ → List ℕ
linked_from bytes before zero place = []
linked_from bytes before (suc most) place =
    let addr = number_at place bytes in
    cond (addr == 0) [] (addr ∷ linked_from bytes before most (addr - before))

-- the bytes from the leader of a small block of so many words to its end
abbrev pub small_extent : ℕ → ℕ
small_extent words = WORD * (1 + words)

-- the small blocks, which follow one another from the first block place to `low`
abbrev pub small_told : List ℕ → List PoolBlock
small_told bytes =
    blocks_between (small_at bytes) small_extent (control_word bytes LOW) (length bytes) (control_word bytes START)

-- the large blocks, which follow one another from `high` to the end
abbrev pub large_told : List ℕ → List PoolBlock
large_told bytes =
    blocks_between (large_at bytes) extent_of (length bytes) (length bytes) (control_word bytes HIGH)

-- the addresses in the list of free small blocks of so many words, each of which links to the next by its first word
abbrev pub small_list_told : List ℕ → ℕ → List ℕ
small_list_told bytes words =
    cond (nat_le 1 words && nat_le words MOST_SMALL) (linked_from bytes 0 (length bytes) (list_place words)) []

-- the address of a large block, and its words as its leader tells
abbrev pub entry_at : List ℕ → ℕ → ℕ × ℕ
entry_at bytes addr = (addr, leader_words (addr - 2 * WORD) bytes)

-- the blocks in the list of free large blocks of an order, each of which links to the next by the word before its own
abbrev pub large_list_told : List ℕ → ℕ → List (ℕ × ℕ)
large_list_told bytes order =
    cond (nat_le order MOST_ORDER) (map (entry_at bytes) (linked_from bytes WORD (length bytes) (large_place order))) []

-- the pools that the bytes of a heap region tell
abbrev pub pools_of : List ℕ → Pools
pools_of bytes = record {
  start = control_word bytes START;
  end = length bytes;
  low = control_word bytes LOW;
  high = control_word bytes HIGH;
  small = small_told bytes;
  large = large_told bytes;
  small_lists = small_list_told bytes;
  large_lists = large_list_told bytes;
}
