-- The blocks of a heap region as their leaders tell, and what an audit asks of them.
use Rattle.std.specs.Prelude.{◌≡◌, ◌≢◌, ◌==◌, ◌+◌, ◌-◌, ◌*◌, ◌&&◌, ◌||◌, ◌⊎◌, ℕ, Bool, true, false, cond, not, nat_le, List, [], ◌∷◌, length, Option, Some, None, find}
use Rattle.std.specs.Option.{option_map, option_or}
use Rattle.sdr_base.specs.KeptLarge.{last_word}
use Rattle.sdr_base.specs.LargePool.{extent_of}
use Rattle.sdr_base.specs.Pools.{PoolBlock}
use Rattle.sdr_base.specs.Rules.{words_for}
use Rattle.sdr_base.specs.Stored.{leader_kind, leader_length, leader_words, number_at}
use Rattle.sdr_base.specs.declared.control.TheConstants.{HIGH, LOW, MOST_SMALL, START}
use Rattle.sdr_base.specs.declared.line.TheConstants.{WORD}
use Rattle.audit_blocks.specs.Control.{control_word}

-- the greatest number of a kind
abbrev pub last_kind : ℕ
last_kind = 13

-- whether the leader at a place is that of a block in use
abbrev pub is_used_leader : List ℕ → ℕ → Bool
is_used_leader bytes place = not (leader_kind place bytes == 0)

-- the small block whose leader stands at a place
abbrev pub small_at : List ℕ → ℕ → PoolBlock
small_at bytes place = record {
  addr = place + WORD;
  words = leader_words place bytes;
  used = is_used_leader bytes place;
}

-- the large block whose leader stands at a place
abbrev pub large_at : List ℕ → ℕ → PoolBlock
large_at bytes place = record { addr = place + 2 * WORD; words = leader_words place bytes; used = is_used_leader bytes place }

-- whether a small block may begin at a place: its kind has a number, it has 1 to 64 words, and it ends where the small blocks
-- end or before
abbrev pub is_small_at : List ℕ → ℕ → Bool
is_small_at bytes place =
    let words = leader_words place bytes in
    nat_le (leader_kind place bytes) last_kind && nat_le 1 words && nat_le words MOST_SMALL
    && nat_le (place + WORD * (1 + words)) (control_word bytes LOW)

-- whether the words around those of a large block are right: the last one tells its words and whether it is in use, and the links
-- of one that is in use are 0
abbrev pub has_ends : List ℕ → PoolBlock → Bool
has_ends bytes block =
    number_at (block.addr + WORD * block.words + WORD) bytes == last_word block.used block.words
    && (not block.used || number_at (block.addr - WORD) bytes == 0 && number_at (block.addr + WORD * block.words) bytes == 0)

-- whether a large block may begin at a place: its kind has a number, it has 1 word or more, it ends with the region or before, and
-- both its ends agree
abbrev pub is_large_at : List ℕ → ℕ → Bool
is_large_at bytes place =
    let words = leader_words place bytes in
    nat_le (leader_kind place bytes) last_kind && nat_le 1 words
    && nat_le (place + extent_of words) (length bytes)
    && has_ends bytes (large_at bytes place)

-- small blocks follow one another from a place to another, as their leaders tell
abbrev pub SmallFollow : List ℕ → ℕ → List PoolBlock → ℕ → Type 0
SmallFollow bytes from [] to = from ≡ to
SmallFollow bytes from (block ∷ blocks) to =
    (is_small_at bytes from ≡ true) × (block ≡ small_at bytes from)
    × SmallFollow bytes (from + WORD * (1 + block.words)) blocks to

-- large blocks follow one another from a place to another, as their leaders tell
abbrev pub LargeFollow : List ℕ → ℕ → List PoolBlock → ℕ → Type 0
LargeFollow bytes from [] to = from ≡ to
LargeFollow bytes from (block ∷ blocks) to =
    (is_large_at bytes from ≡ true) × (block ≡ large_at bytes from)
    × LargeFollow bytes (from + extent_of block.words) blocks to

-- the blocks of both pools follow one another, the small ones from the first block place to low, the large ones from high to
-- the end
pub record BlocksFollow (bytes : List ℕ) (small large : List PoolBlock) : Type 0 where
  pub below : SmallFollow bytes (control_word bytes START) small (control_word bytes LOW)
  pub above : LargeFollow bytes (control_word bytes HIGH) large (length bytes)

-- a small block is wrong, and the blocks before it follow one another up to it
pub record SmallBreaks (bytes : List ℕ) (place : ℕ) : Type 0 where
  pub before : List PoolBlock
  pub follow : SmallFollow bytes (control_word bytes START) before place
  pub short : place ≢ control_word bytes LOW
  pub wrong : is_small_at bytes place ≡ false

-- a large block is wrong, and the blocks before it follow one another up to it
pub record LargeBreaks (bytes : List ℕ) (place : ℕ) : Type 0 where
  pub small : List PoolBlock
  pub all_small : SmallFollow bytes (control_word bytes START) small (control_word bytes LOW)
  pub before : List PoolBlock
  pub follow : LargeFollow bytes (control_word bytes HIGH) before place
  pub short : place ≢ length bytes
  pub wrong : is_large_at bytes place ≡ false

-- the length in a block's leader, which stands so far before its address
abbrev pub block_length : List ℕ → ℕ → PoolBlock → ℕ
block_length bytes frame block = leader_length (block.addr - frame) bytes

-- whether the words of a small block are those that its length needs, or more where it is free
abbrev pub small_holds : List ℕ → PoolBlock → Bool
small_holds bytes block =
    let need = words_for (block_length bytes WORD block) in
    nat_le need block.words && (not block.used || need == block.words)

-- whether a large block has the words that its length needs
abbrev pub large_holds : List ℕ → PoolBlock → Bool
large_holds bytes block = nat_le (words_for (block_length bytes (2 * WORD) block)) block.words

-- whether a free block has length 0
abbrev pub is_empty : List ℕ → ℕ → PoolBlock → Bool
is_empty bytes frame block = block.used || block_length bytes frame block == 0

-- the place of the first of these blocks, which begin so far before their addresses, that isn't right
abbrev pub first_wrong : (PoolBlock → Bool) → ℕ → List PoolBlock → Option ℕ
first_wrong right frame blocks =
    option_map (λ (block : PoolBlock). block.addr - frame) (find (λ block. not (right block)) blocks)

-- the place of the upper of the first two free large blocks that touch, where one stands before them that is free or not
abbrev pub touching_after : Bool → List PoolBlock → Option ℕ
touching_after free [] = None
touching_after free (block ∷ blocks) =
    cond (free && not block.used) (Some (block.addr - 2 * WORD)) (touching_after (not block.used) blocks)

-- the place of the block at high, where it is free
abbrev pub free_edge : List PoolBlock → Option ℕ
free_edge [] = None
free_edge (block ∷ blocks) = cond block.used None (Some (block.addr - 2 * WORD))

-- the first of these blocks that has fewer words than its length needs, or is small, in use, and has more
abbrev pub first_unfit : List ℕ → List PoolBlock → List PoolBlock → Option ℕ
first_unfit bytes small large =
    option_or (first_wrong (small_holds bytes) WORD small) (first_wrong (large_holds bytes) (2 * WORD) large)

-- the first of these blocks that is free and has a length
abbrev pub first_full : List ℕ → List PoolBlock → List PoolBlock → Option ℕ
first_full bytes small large =
    option_or (first_wrong (is_empty bytes WORD) WORD small) (first_wrong (is_empty bytes (2 * WORD)) (2 * WORD) large)

-- Where blocks that follow one another are wrong first: a length that doesn't fit; then a free one with a length; then two free
-- large ones that touch; then a free one at high.
abbrev pub wrong_block : List ℕ → List PoolBlock → List PoolBlock → Option ℕ
wrong_block bytes small large =
    option_or (option_or (option_or (first_unfit bytes small large) (first_full bytes small large)) (touching_after false large))
    (free_edge large)

-- the blocks of both pools follow one another, and each is right
pub record AreBlocks (bytes : List ℕ) (small large : List PoolBlock) : Type 0 where
  pub follow : BlocksFollow bytes small large
  pub right : wrong_block bytes small large ≡ None

-- this holds of a region and its blocks, whatever these are
abbrev pub OfBlocks : (List ℕ → List PoolBlock → List PoolBlock → Type 0) → List ℕ → Type 0
OfBlocks P bytes = (small large : List PoolBlock) → AreBlocks bytes small large → P bytes small large

-- blocks that follow one another are wrong at a place, by what is asked of them besides
pub record BlocksBreak (bytes : List ℕ) (place : ℕ) : Type 0 where
  pub small : List PoolBlock
  pub large : List PoolBlock
  pub follow : BlocksFollow bytes small large
  pub wrong : wrong_block bytes small large ≡ Some place

-- a block is wrong at this place, and none before it in the order in which blocks are checked
abbrev pub IsWrongBlock : List ℕ → ℕ → Type 0
IsWrongBlock bytes place = SmallBreaks bytes place ⊎ (LargeBreaks bytes place ⊎ BlocksBreak bytes place)
