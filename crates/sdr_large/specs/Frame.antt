-- The four words of a large block's frame.
use Rattle.std.specs.Prelude.{◌≡◌, ◌+◌, ◌-◌, ◌*◌, ℕ, Bool, List, length, get_or}
use Rattle.sdr_base.specs.KeptPools.{IsOutside}
use Rattle.sdr_base.specs.KeptLarge.{last_word}
use Rattle.sdr_base.specs.Stored.{number_at, leader_kind, leader_words, leader_length}
use Rattle.sdr_base.specs.declared.line.TheConstants.{WORD}

-- the block at an address has got its frame, with this next and no block before it, and all other bytes stay
pub record HasFrame (used : Bool) (words addr next : ℕ) (old new : List ℕ) : Type 0 where
  pub size : length new ≡ length old
  pub kind : leader_kind (addr - 2 * WORD) new ≡ 0
  pub named : leader_words (addr - 2 * WORD) new ≡ words
  pub bare : leader_length (addr - 2 * WORD) new ≡ 0
  pub link : number_at (addr - WORD) new ≡ next
  pub before : number_at (addr + WORD * words) new ≡ 0
  pub last : number_at (addr + WORD * words + WORD) new ≡ last_word used words
  pub others : (i : ℕ) → IsOutside (addr - 2 * WORD) addr i →
      IsOutside (addr + WORD * words) (addr + WORD * words + 2 * WORD) i → get_or new i 0 ≡ get_or old i 0
