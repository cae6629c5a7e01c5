-- The blocks in use of a heap region, and how its bytes keep a heap.
use Rattle.std.specs.Prelude.{◌≡◌, ◌≢◌, ◌≤◌, ◌<◌, ◌==◌, ◌-◌, ◌*◌, ◌/◌, ◌%◌, ◌&&◌, ℕ, Bool, true, cond, nat_lt}
use Rattle.std.specs.Prelude.{nat_le, count_by}
use Rattle.std.specs.Prelude.{List, length, Option, Some, None, is_some}
use Rattle.sdr_base.specs.Blocks.{Block, Blocks}
use Rattle.sdr_base.specs.Entries.{Few}
use Rattle.sdr_base.specs.KeptLarge.{KeepsLarge, is_used_of}
use Rattle.sdr_base.specs.KeptPools.{KeepsSmall}
use Rattle.sdr_base.specs.Kinds.{kind_of}
use Rattle.sdr_base.specs.Parts.{part}
use Rattle.sdr_base.specs.Pools.{Pools}
use Rattle.sdr_base.specs.Rules.{words_for}
use Rattle.sdr_base.specs.Stored.{number_at, leader_kind, leader_length, start_bit}
use Rattle.sdr_base.specs.declared.kind.Kind.{Kind}
use Rattle.sdr_base.specs.declared.control.TheConstants.{START, LOW, HIGH, FIRST_NAME, CONTROL_WORDS}
use Rattle.sdr_base.specs.declared.line.TheConstants.{WORD}

-- a block of this kind and these bytes, where there is a kind
abbrev pub block_of : Option Kind → List ℕ → Option Block
block_of None bytes = None
block_of (Some kind) bytes = Some (record { kind = kind; bytes = bytes })

-- the block in use at an address whose leader is at a place: the start bit of the leader's word is set
abbrev pub led_block : List ℕ → ℕ → ℕ → Option Block
led_block bytes place addr =
    cond (start_bit (place / WORD) bytes == 1)
    (block_of (kind_of (leader_kind place bytes)) (part addr (leader_length place bytes) bytes))
    None

-- the place of the leader of a block at an address, which is small below `low`, and large from `high` up
abbrev pub pool_place : List ℕ → ℕ → Option ℕ
pool_place bytes addr =
    cond (nat_lt (addr - WORD) (number_at (WORD * LOW) bytes))
    (Some (addr - WORD))
    (cond (nat_le (number_at (WORD * HIGH) bytes) (addr - 2 * WORD)) (Some (addr - 2 * WORD)) None)

-- whether a block may begin at an address: a whole word behind the first block place, inside of the region
abbrev pub may_begin : List ℕ → ℕ → Bool
may_begin bytes addr =
    addr % WORD == 0 && nat_lt (number_at (WORD * START) bytes) addr && nat_lt addr (length bytes)

-- the block in use with this leader, if there is one
abbrev pub block_led : List ℕ → ℕ → Option ℕ → Option Block
block_led bytes addr None = None
block_led bytes addr (Some place) = led_block bytes place addr

-- where the leader of a block at an address would stand, if one may begin there
abbrev pub leader_place : List ℕ → ℕ → Option ℕ
leader_place bytes addr = cond (may_begin bytes addr) (pool_place bytes addr) None

-- where the leader of the block in use at an address stands
abbrev pub used_place : List ℕ → ℕ → ℕ
used_place bytes addr = cond (nat_lt (addr - WORD) (number_at (WORD * LOW) bytes)) (addr - WORD) (addr - 2 * WORD)

-- the block in use at each address of a heap region
unfoldable pub block_in : List ℕ → Blocks
block_in bytes addr = block_led bytes addr (leader_place bytes addr)

-- the control words of a heap region that belong to what its blocks keep, and 0 for any other
unfoldable pub root_in : List ℕ → ℕ → ℕ
root_in bytes word =
    cond (nat_le FIRST_NAME word && nat_lt word CONTROL_WORDS) (number_at (WORD * word) bytes) 0

-- a leader at a place has a kind, and a length for which so many words are needed
pub record HasLabel (place words : ℕ) (bytes : List ℕ) : Type 0 where
  pub kind : is_some (kind_of (leader_kind place bytes)) ≡ true
  pub length : words_for (leader_length place bytes) ≡ words

-- the same, where more words than are needed may be there
pub record HasLargeLabel (place words : ℕ) (bytes : List ℕ) : Type 0 where
  pub kind : is_some (kind_of (leader_kind place bytes)) ≡ true
  pub length : words_for (leader_length place bytes) ≤ words

-- the blocks in use have their labels, but for one at an address
pub record LabelledBut (addr : ℕ) (bytes : List ℕ) (P : Pools) : Type 0 where
  pub small : (words other : ℕ) → other ≢ addr → 0 < count_by (is_used_of words other) P.small →
      HasLabel (other - WORD) words bytes
  pub large : (words other : ℕ) → other ≢ addr → 0 < count_by (is_used_of words other) P.large →
      HasLargeLabel (other - 2 * WORD) words bytes

-- the bytes keep both pools of a heap, and each block in use has a kind and a length
pub record KeepsHeap (bytes : List ℕ) (P : Pools) : Type 0 where
  pub small : KeepsSmall bytes P
  pub large : KeepsLarge bytes P
  pub labels : LabelledBut 0 bytes P

-- a heap is kept, whatever its pools are
pub record KeepsSomeHeap (bytes : List ℕ) : Type 0 where
  pub pools : Pools
  pub keeps : KeepsHeap bytes pools

-- the bytes of a region of so many keep a heap. That its blocks in use are few follows; it stands here since a law
-- of `Objects` says it
pub record KeepsRegion (count : ℕ) (bytes : List ℕ) (P : Pools) : Type 0 where
  pub size : length bytes ≡ count
  pub heap : KeepsHeap bytes P
  pub few : Few count (block_in bytes)
