-- What the calls of the small pool do to the pools that the bytes keep.
use Rattle.std.specs.Prelude.{◌≡◌, ◌≤◌, ◌<◌, ◌+◌, ◌-◌, ◌*◌, ◌/◌, ℕ, List, Option, Some, None, ⊤}
use Rattle.sdr_base.specs.Pools.{Pools, IsUsed}
use Rattle.sdr_base.specs.SmallPool.{Taken, take_small, give_small, words_at}
use Rattle.sdr_base.specs.KeptPools.{KeepsSmall, StaysBeside, list_place}
use Rattle.sdr_base.specs.Stored.{number_at, with_number, leader_kind, leader_length, with_bare_leader, SetsStartBit}
use Rattle.sdr_base.specs.declared.line.TheConstants.{WORD}
use Rattle.sdr_base.specs.declared.control.TheConstants.{LOW, HIGH}

-- a block of so many words is answered: the bytes keep the pools in which it is in use, its leader has
-- kind 0 and length 0, and all else stays
pub record TakesBlock (P : Pools) (words : ℕ) (taken : Taken) (found : Option ℕ) (old new : List ℕ) : Type 0 where
  pub addr : found ≡ Some taken.addr
  pub used : IsUsed taken.pools.small taken.addr
  pub keeps : KeepsSmall new taken.pools
  pub kind : leader_kind (taken.addr - WORD) new ≡ 0
  pub length : leader_length (taken.addr - WORD) new ≡ 0
  pub others : StaysBeside P.start taken.addr words old new

-- the answer is what the rule gives; where it gives none, nothing changes
abbrev pub TakesBy : Pools → ℕ → Option Taken → Option ℕ → List ℕ → List ℕ → Type 0
TakesBy P words None found old new = (found ≡ None) × (new ≡ old)
TakesBy P words (Some taken) found old new = TakesBlock P words taken found old new

-- so it is for whatever pools the bytes keep
pub record TakesSmall (words : ℕ) (found : Option ℕ) (old new : List ℕ) : Type 0 where
  pub rule : (P : Pools) → KeepsSmall old P → TakesBy P words (take_small P words) found old new

-- the bytes keep a small pool in which this block is in use
pub record KeepsUsedSmall (addr : ℕ) (bytes : List ℕ) : Type 0 where
  pub pools : Pools
  pub keeps : KeepsSmall bytes pools
  pub used : IsUsed pools.small addr

-- a block that was answered can be given back
abbrev pub IsGiveable : Option ℕ → List ℕ → Type 0
IsGiveable None bytes = ⊤
IsGiveable (Some addr) bytes = KeepsUsedSmall addr bytes

-- the block is back: the bytes keep the pools with it, and all else stays
pub record GivesBlock (P : Pools) (addr : ℕ) (old new : List ℕ) : Type 0 where
  pub keeps : KeepsSmall new (give_small P addr)
  pub others : StaysBeside P.start addr (words_at addr P.small) old new

-- so it is for whatever pools the bytes keep
pub record GivesSmall (addr : ℕ) (old new : List ℕ) : Type 0 where
  pub rule : (P : Pools) → KeepsSmall old P → IsUsed P.small addr → GivesBlock P addr old new

-- the front of the list for so many words goes, and its start bit is set
abbrev pub TakesListed : ℕ → ℕ → List ℕ → List ℕ → Type 0
TakesListed words addr old new =
    SetsStartBit ((addr - WORD) / WORD) 1 (with_number (list_place words) (number_at addr old) old) new

-- a new block of so many words begins at `low` where it ends at `high` or below, and else nothing changes
abbrev pub TakesNew : ℕ → ℕ → Option ℕ → List ℕ → List ℕ → Type 0
TakesNew words low None old new = (number_at (WORD * HIGH) old < low + WORD * (1 + words)) × (new ≡ old)
TakesNew words low (Some addr) old new =
    (low + WORD * (1 + words) ≤ number_at (WORD * HIGH) old) × (addr ≡ low + WORD)
    × SetsStartBit (low / WORD) 1
    (with_number (WORD * LOW) (low + WORD * (1 + words)) (with_bare_leader low words old)) new

-- the block is the front of the list for so many words, with the old front as its next, and its start bit is cleared
abbrev pub PutsFront : ℕ → ℕ → List ℕ → List ℕ → Type 0
PutsFront words addr old new =
    SetsStartBit ((addr - WORD) / WORD) 0
    (with_number (list_place words) addr
    (with_bare_leader (addr - WORD) words
    (with_number addr (number_at (list_place words) old) old))) new
