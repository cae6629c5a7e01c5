-- What an audit asks of the start bits.
use Rattle.std.specs.Prelude.{◌≡◌, ◌≤◌, ◌<◌, ◌==◌, ◌+◌, ◌-◌, ◌*◌, ◌^◌, ℕ, Bool, true, false, cond, List, get_or, length, sum_by}
use Rattle.std.specs.List.{range_with_len}
use Rattle.std.specs.Option.{option_map_or}
use Rattle.sdr_base.specs.Pools.{PoolBlock}
use Rattle.sdr_base.specs.declared.control.TheConstants.{START}
use Rattle.sdr_base.specs.declared.line.TheConstants.{START_BITS, WORD}
use Rattle.audit_blocks.specs.Control.{control_word}
use Rattle.audit_blocks.specs.Spots.{begun_at}
use Rattle.audit_blocks.specs.Walk.{AreBlocks}

-- whether a block in use begins with a word of the region
abbrev pub begins_with : List PoolBlock → List PoolBlock → ℕ → Bool
begins_with small large word = option_map_or (λ (block : PoolBlock). block.used) (begun_at small large (WORD * word)) false

-- the byte of the start bits of eight words, by whether a block in use begins with each: that of the first word is the highest
abbrev pub byte_of_bits : (ℕ → Bool) → ℕ → ℕ
byte_of_bits begins byte = sum_by (λ bit. cond (begins (8 * byte + bit)) (2 ^ (7 - bit)) 0) (range_with_len 0 8)

-- the byte of the start bits of eight words
abbrev pub bits_byte : List PoolBlock → List PoolBlock → ℕ → ℕ
bits_byte small large byte = byte_of_bits (begins_with small large) byte

-- whether the byte at a place behind the control words is that of the start bits: behind the last word's it is 0, since no block
-- begins behind the region
abbrev pub is_bits_byte : List ℕ → List PoolBlock → List PoolBlock → ℕ → Bool
is_bits_byte bytes small large place = get_or bytes place 0 == bits_byte small large (place - START_BITS)

-- a byte stands behind the control words and before the first block
pub record IsBitsPlace (bytes : List ℕ) (place : ℕ) : Type 0 where
  pub from : START_BITS ≤ place
  pub to : place < control_word bytes START

-- each byte of the start bits is right
abbrev pub BitsAreRight : List ℕ → List PoolBlock → List PoolBlock → Type 0
BitsAreRight bytes small large =
    (place : ℕ) → IsBitsPlace bytes place → is_bits_byte bytes small large place ≡ true

-- the byte at a place is wrong, and none of the start bits before it
pub record IsWrongBits (bytes : List ℕ) (small large : List PoolBlock) (place : ℕ) : Type 0 where
  pub inside : IsBitsPlace bytes place
  pub before : (other : ℕ) → IsBitsPlace bytes other → other < place → is_bits_byte bytes small large other ≡ true
  pub wrong : is_bits_byte bytes small large place ≡ false

-- the bytes of the start bits before a place are right, whatever the blocks are
abbrev pub BitsBefore : List ℕ → ℕ → Type 0
BitsBefore bytes place =
    (small large : List PoolBlock) → AreBlocks bytes small large →
    (other : ℕ) → IsBitsPlace bytes other → other < place → is_bits_byte bytes small large other ≡ true
