-- Lists of free blocks as they are walked over, and which of their blocks were reached.
use Rattle.std.specs.Prelude.{◌≡◌, ◌≤◌, ◌<◌, ◌==◌, ◌+◌, ◌-◌, ◌*◌, ◌/◌, ◌%◌, ◌&&◌, ◌||◌, ℕ, Bool, true, false, cond, nat_le, nat_lt, List, [], ◌∷◌, length, get_or, count_by}
use Rattle.sdr_base.specs.LargePool.{order_of}
use Rattle.sdr_base.specs.Stored.{leader_words, number_at}
use Rattle.sdr_base.specs.declared.control.TheConstants.{LARGE_LISTS, LOW, MOST_SMALL, SMALL_LISTS}
use Rattle.sdr_base.specs.declared.line.TheConstants.{WORD}
use Rattle.audit_blocks.specs.Control.{control_word}
use Rattle.audit_blocks.specs.Free.{IsListWord}
use Rattle.audit_blocks.specs.Spots.{is_free_spot}
use Rattle.audit_blocks.specs.Walked.{AllFound}
use Rattle.audit_blocks.specs.declared.free.Link.{Link}
use Rattle.audit_blocks.specs.declared.spot.Spot.{Spot}
use Rattle.audit_blocks.specs.declared.spot.Spot.TheVariants as spots

-- whether the list whose front stands in this control word is one of small blocks
abbrev pub is_small_list : ℕ → Bool
is_small_list word = nat_le word (SMALL_LISTS + MOST_SMALL)

-- how far before its address the leader of a block of this list stands
abbrev pub frame_in : ℕ → ℕ
frame_in word = cond (is_small_list word) WORD (2 * WORD)

-- how far before its address the leader of a block stands that begins at a place, where small blocks end at `low`
abbrev pub frame_at : ℕ → ℕ → ℕ
frame_at place low = cond (nat_lt place low) WORD (2 * WORD)

-- the control word of the list in which the block is, if it is free, whose leader stands at a place
abbrev pub list_of : List ℕ → ℕ → ℕ
list_of bytes place =
    cond (nat_lt place (control_word bytes LOW))
    (SMALL_LISTS + leader_words place bytes)
    (LARGE_LISTS + order_of (leader_words place bytes))

-- whether it is told that a free block begins at a place
abbrev pub is_told_free : List Spot → ℕ → Bool
is_told_free told place = place % WORD == 0 && is_free_spot (get_or told (place / WORD) spots.Nothing)

-- whether it is told that a free block of this list has this address
abbrev pub is_listed : List ℕ → List Spot → ℕ → ℕ → Bool
is_listed bytes told word addr =
    nat_le (frame_in word) addr
    && (is_told_free told (addr - frame_in word) && list_of bytes (addr - frame_in word) == word)

-- whether a large block's link to the one before it in its list is right; a small one has none
abbrev pub has_previous : List ℕ → ℕ → ℕ → ℕ → Bool
has_previous bytes word before addr =
    is_small_list word || number_at (addr + WORD * leader_words (addr - 2 * WORD) bytes) bytes == before

-- whether the block at an address may follow another one in this list, or be its first, behind none
abbrev pub may_follow : List ℕ → List Spot → ℕ → ℕ → ℕ → Bool
may_follow bytes told word before addr = is_listed bytes told word addr && has_previous bytes word before addr

-- A list goes from the link at a place, which stands in one block, over the blocks at these addresses, up to the link at another
-- place, which stands in the last of them.
abbrev pub ListGoes : List ℕ → List Spot → ℕ → ℕ → ℕ → List ℕ → ℕ → ℕ → Type 0
ListGoes bytes told word place before [] to last = (place ≡ to) × (before ≡ last)
ListGoes bytes told word place before (addr ∷ addrs) to last =
    (number_at place bytes ≡ addr) × (may_follow bytes told word before addr ≡ true)
    × ListGoes bytes told word (addr - frame_in word + WORD) addr addrs to last

-- from that link on the list goes over the blocks at these addresses, and ends
pub record GoesOver (bytes : List ℕ) (told : List Spot) (word place before : ℕ) (addrs : List ℕ) : Type 0 where
  pub to : ℕ
  pub last : ℕ
  pub goes : ListGoes bytes told word place before addrs to last
  pub end : number_at to bytes ≡ 0

-- whether the word is marked with which the block at an address begins
abbrev pub is_marked : List Bool → ℕ → ℕ → Bool
is_marked reached word addr = get_or reached ((addr - frame_in word) / WORD) false

-- the marks are just those of the blocks in these lists, and each stands in its own list once
abbrev pub AreMarked : List ℕ → List Spot → (ℕ → List ℕ) → List Bool → Type 0
AreMarked bytes told lists reached =
    (word addr : ℕ) →
    count_by (λ other. other == addr) (lists word) ≡ cond (is_listed bytes told word addr && is_marked reached word addr) 1 0

-- all lists before that of a control word are right, and their blocks are marked
pub record ListsWalked (bytes : List ℕ) (told : List Spot) (reached : List Bool) (word : ℕ) : Type 0 where
  pub lists : ℕ → List ℕ
  pub done : (other : ℕ) → IsListWord other → other < word → GoesOver bytes told other (WORD * other) 0 (lists other)
  pub rest : (other : ℕ) → word ≤ other → lists other ≡ []
  pub marks : AreMarked bytes told lists reached
  pub long : length reached ≡ length told

-- the same, and one list besides goes up to this link
pub record ListWalked (bytes : List ℕ) (told : List Spot) (reached : List Bool) (link : Link) : Type 0 where
  pub list : IsListWord link.word
  pub lists : ℕ → List ℕ
  pub done : (other : ℕ) → IsListWord other → other < link.word → GoesOver bytes told other (WORD * other) 0 (lists other)
  pub place : ℕ
  pub here : ListGoes bytes told link.word (WORD * link.word) 0 (lists link.word) place link.before
  pub tells : number_at place bytes ≡ link.addr
  pub rest : (other : ℕ) → link.word < other → lists other ≡ []
  pub marks : AreMarked bytes told lists reached
  pub long : length reached ≡ length told

-- this is left of what was told of the words, once those that are marked are struck out
pub record IsLeft (told : List Spot) (reached : List Bool) (left : List Spot) : Type 0 where
  pub long : length left ≡ length told
  pub each : (word : ℕ) → get_or left word spots.Nothing ≡ cond (get_or reached word false) spots.Nothing (get_or told word spots.Nothing)

-- This is left of what was told of the words: the blocks that some lists reached are struck out, of which so much is known.
pub record Leaves (bytes : List ℕ) (left : List Spot) (Walked : List Spot → List Bool → Type 0) : Type 0 where
  pub told : List Spot
  pub reached : List Bool
  pub long : length told * WORD ≡ length bytes
  pub found : AllFound bytes told
  pub left_is : IsLeft told reached left
  pub walked : Walked told reached

-- whether a word is left with which a free block begins
abbrev pub is_lost : List Spot → ℕ → Bool
is_lost left word = is_free_spot (get_or left word spots.Nothing)

-- this is the first such word
pub record IsFirstLost (left : List Spot) (word : ℕ) : Type 0 where
  pub inside : word < length left
  pub before : (other : ℕ) → other < word → is_lost left other ≡ false
  pub wrong : is_lost left word ≡ true

-- how many free blocks are left
abbrev pub free_left : List Spot → ℕ
free_left left = count_by is_free_spot left
