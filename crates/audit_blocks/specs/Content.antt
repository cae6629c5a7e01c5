-- What an audit asks of the contents of blocks in use, each by itself: their lengths, the lengths in them, small values and zeros.
use Rattle.std.specs.Prelude.{◌≡◌, ◌≤◌, ◌==◌, ◌+◌, ◌-◌, ◌*◌, ◌&&◌, ◌||◌, ◌^◌, ◌⊎◌, ℕ, Bool, true, false, cond, min, not, nat_le, nat_lt, List, ◌∷◌, ◌++◌, drop, get_or, length, Option, None, Some}
use Rattle.std.specs.List.{All, list_all}
use Rattle.sdr_base.specs.Kinds.{kind_of}
use Rattle.sdr_base.specs.Parts.{part}
use Rattle.sdr_base.specs.Pools.{PoolBlock}
use Rattle.sdr_base.specs.Stored.{leader_kind, leader_length, number_at}
use Rattle.sdr_base.specs.declared.control.TheConstants.{HIGH, LOW, START}
use Rattle.sdr_base.specs.declared.kind.Kind.{Kind}
use Rattle.sdr_base.specs.declared.kind.Kind.TheVariants as kinds
use Rattle.sdr_base.specs.declared.line.TheConstants.{WORD}
use Rattle.sdr_model.specs.Accounts.{most_amount}
use Rattle.audit_blocks.specs.Control.{control_word}
use Rattle.audit_blocks.specs.Walk.{LargeFollow, SmallFollow}
use Rattle.sdr_model.specs.Limits.{longest_key, longest_raw, longest_source, longest_string, most_buckets, is_no_capsule, is_no_name, is_no_path}

-- the number in a word of a block's bytes, counted from 0
abbrev pub field : List ℕ → ℕ → ℕ
field bytes n = number_at (WORD * n) bytes

-- whether a number is one of 0 and 1
abbrev pub is_flag : ℕ → Bool
is_flag value = nat_le value 1

-- whether a block has a key of a hash behind so many bytes
abbrev pub is_key_length : ℕ → Bool
is_key_length count = nat_le 1 count && nat_le count longest_key

-- how many bytes of a block tell whether its content is right
abbrev pub told_bytes : ℕ
told_bytes = 96

-- a raw object: the address of a source, and its bytes
abbrev pub is_raw : ℕ → Bool
is_raw count = nat_le 8 count && nat_le count (8 + longest_raw)

-- a string: the length of its text, and the text
abbrev pub is_string : ℕ → List ℕ → Bool
is_string count first = nat_le 1 count && count == 1 + get_or first 0 0 && nat_le (get_or first 0 0) longest_string

-- a table: user data, the bytes of a row, rows, and the bytes of all rows
abbrev pub is_table : ℕ → List ℕ → Bool
is_table count first =
    nat_le 24 count && nat_le (field first 1) longest_raw && nat_le (field first 2) longest_raw
    && nat_le (field first 2 * field first 1) longest_raw && count == 24 + field first 2 * field first 1

-- a hash: the bytes of a key, buckets, entries, and the first entry of each bucket
abbrev pub is_hash : ℕ → List ℕ → Bool
is_hash count first =
    nat_le 24 count && is_key_length (field first 0) && nat_le 1 (field first 1) && nat_le (field first 1) most_buckets
    && count == 24 + 8 * field first 1

-- an entry of the catalogue: the next one, type, object, and the name in 32 bytes: its length, the name, and zeros
abbrev pub is_name_entry : ℕ → List ℕ → Bool
is_name_entry count first =
    count == 56 && nat_lt (field first 1) (2 ^ 32) && not (is_no_name (get_or first 24 0))
    && list_all (λ byte. byte == 0) (drop (25 + get_or first 24 0) first)

-- a source: its medium, flag, two counts, subject, length, and the path of a file, which has no subject
abbrev pub is_source : ℕ → List ℕ → Bool
is_source count first =
    nat_le 48 count && nat_le 1 (field first 0) && nat_le (field first 0) 4 && is_flag (field first 1)
    && nat_le (field first 5) longest_source
    && cond (field first 0 == 1) (field first 4 == 0 && not (is_no_path (count - 48))) (count == 48)

-- a ticket: number, account, coarse and fine priority, what it asks and what is left in each space, whether it is granted, and the
-- next one
abbrev pub is_ticket : ℕ → List ℕ → Bool
is_ticket count first =
    count == 96 && nat_le (field first 0) most_amount && is_flag (field first 1)
    && nat_le (field first 2) 255 && nat_le (field first 3) 255
    && nat_le (field first 4) most_amount && nat_le (field first 5) most_amount && nat_le (field first 6) most_amount
    && is_flag (field first 10)

-- whether a block of a kind may have this length and begin with these bytes, which are so many as tell it
abbrev pub has_layout : Kind → ℕ → List ℕ → Bool
has_layout kinds.Raw count first = is_raw count
has_layout kinds.Text count first = is_string count first
has_layout kinds.List count first = count == 32
has_layout kinds.Element count first = count == 32
has_layout kinds.Table count first = is_table count first
has_layout kinds.Hash count first = is_hash count first
has_layout kinds.HashEntry count first = nat_le 16 count && is_key_length (count - 16)
has_layout kinds.Name count first = is_name_entry count first
has_layout kinds.Source count first = is_source count first
has_layout kinds.Object count first = count == 72 && is_flag (field first 0)
has_layout kinds.Extent count first = count == 32
has_layout kinds.Capsule count first = nat_le 8 count && not (is_no_capsule (count - 8))
has_layout kinds.Ticket count first = is_ticket count first

-- whether a block of this kind, if it is one, may have this length and begin with these bytes
abbrev pub may_have : Option Kind → ℕ → List ℕ → Bool
may_have None count first = false
may_have (Some kind) count first = has_layout kind count first

-- whether the block at an address whose leader stands at a place has what its kind's layout asks
abbrev pub is_filled_at : List ℕ → ℕ → ℕ → Bool
is_filled_at bytes place addr =
    let count = leader_length place bytes in
    may_have (kind_of (leader_kind place bytes)) count (part addr (min told_bytes count) bytes)

-- whether a block whose leader stands so far before its address is free, or has what its kind's layout asks
abbrev pub is_filled : List ℕ → ℕ → PoolBlock → Bool
is_filled bytes frame block = not block.used || is_filled_at bytes (block.addr - frame) block.addr

-- each of these blocks is free, or has what its kind's layout asks
abbrev pub AllFilled : List ℕ → ℕ → List PoolBlock → Type 0
AllFilled bytes frame blocks = All (λ block. is_filled bytes frame block ≡ true) blocks

-- the contents of all blocks in use are right
pub record ContentIsRight (bytes : List ℕ) (small large : List PoolBlock) : Type 0 where
  pub below : AllFilled bytes WORD small
  pub above : AllFilled bytes (2 * WORD) large

-- among these blocks this is the first whose content is wrong
pub record FirstUnfilled (bytes : List ℕ) (frame : ℕ) (blocks : List PoolBlock) (addr : ℕ) : Type 0 where
  pub before : List PoolBlock
  pub block : PoolBlock
  pub behind : List PoolBlock
  pub whole : blocks ≡ before ++ block ∷ behind
  pub right : AllFilled bytes frame before
  pub wrong : is_filled bytes frame block ≡ false
  pub at : addr ≡ block.addr

-- the first block in use whose content is wrong has this address
abbrev pub IsWrongContent : List ℕ → List PoolBlock → List PoolBlock → ℕ → Type 0
IsWrongContent bytes small large addr =
    FirstUnfilled bytes WORD small addr ⊎ (AllFilled bytes WORD small × FirstUnfilled bytes (2 * WORD) large addr)

-- small blocks follow one another up to a place, and each of them is free, or has what its kind's layout asks
pub record SmallFilled (bytes : List ℕ) (place : ℕ) : Type 0 where
  pub done : List PoolBlock
  pub follow : SmallFollow bytes (control_word bytes START) done place
  pub within : place ≤ control_word bytes LOW
  pub filled : AllFilled bytes WORD done

-- all small blocks are so, and large ones that follow one another up to a place
pub record LargeFilled (bytes : List ℕ) (place : ℕ) : Type 0 where
  pub below : SmallFilled bytes (control_word bytes LOW)
  pub done : List PoolBlock
  pub follow : LargeFollow bytes (control_word bytes HIGH) done place
  pub within : place ≤ length bytes
  pub filled : AllFilled bytes (2 * WORD) done
