-- What an audit of owners sees of a heap.
use Rattle.std.specs.Prelude.{◌==◌, ◌*◌, ◌/◌, ℕ, Bool, false, cond, nat_lt, List, length, Option, None, Some}
use Rattle.std.specs.List.{list_any}
use Rattle.std.specs.Option.{option_map_or}
use Rattle.sdr_base.specs.Blocks.{Block, Blocks, kind_length}
use Rattle.sdr_base.specs.KeptHeap.{block_in, root_in}
use Rattle.sdr_base.specs.Kinds.{kind_number}
use Rattle.sdr_base.specs.Stored.{number_at}
use Rattle.sdr_base.specs.declared.kind.Kind.{Kind}
use Rattle.sdr_base.specs.declared.line.TheConstants.{WORD}

-- the blocks in use, and the control words that belong to what they keep
pub record View : Type 0 where
  pub blocks : Blocks
  pub roots : ℕ → ℕ

-- what is seen of the bytes of a heap region
abbrev pub view_in : List ℕ → View
view_in bytes = record { blocks = block_in bytes; roots = root_in bytes }

-- whether there is a block, of this kind
abbrev pub is_kind : Kind → Option Block → Bool
is_kind kind block =
    option_map_or (λ (told : Kind × ℕ). kind_number told.0 == kind_number kind) (kind_length block) false

-- whether there is a block, of one of these kinds
abbrev pub is_one_of : List Kind → Option Block → Bool
is_one_of kinds block = list_any (λ kind. is_kind kind block) kinds

-- whether one of these kinds has this number
abbrev pub have_number : List Kind → ℕ → Bool
have_number kinds number = list_any (λ kind. number == kind_number kind) kinds

-- how many bytes a block has, none where there is no block
abbrev pub length_of : Option Block → ℕ
length_of None = 0
length_of (Some block) = length block.bytes

-- the number in a word of a block, counted from 0; it is 0 where the block has no such word
abbrev pub word_of : Option Block → ℕ → ℕ
word_of None field = 0
word_of (Some block) field = cond (nat_lt field (length block.bytes / WORD)) (number_at (WORD * field) block.bytes) 0
