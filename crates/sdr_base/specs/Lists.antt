-- The blocks that keep a list: the list's own, and a chain of elements.
use Rattle.std.specs.Prelude.{◌<◌, ◌^◌, ℕ, List, [], ◌∷◌, ◌++◌, length, All}
use Rattle.sdr_base.specs.Blocks.{Block, Blocks}
use Rattle.sdr_base.specs.Entries.{Entries, BlocksAre}
use Rattle.sdr_base.specs.Linked.{first_of, last_of, linked}
use Rattle.sdr_base.specs.Words.{layout}
use Rattle.sdr_base.specs.declared.kind.Kind.TheVariants as kinds

-- an element of a list: its address and its datum
pub record ListElement : Type 0 where
  pub addr : ℕ
  pub datum : ℕ

-- a list: a number of the user's, and the elements in order
pub record ListRow : Type 0 where
  pub user : ℕ
  pub elements : List ListElement

-- where an element stands
abbrev pub addr_of : ListElement → ℕ
addr_of element = element.addr

-- the block of a list with so many elements, the first and the last of which stand at these addresses
abbrev pub list_block : ℕ → ℕ → ℕ → ℕ → Block
list_block user count first last =
    record { kind = kinds.List; bytes = layout (user ∷ count ∷ first ∷ last ∷ []) [] }

-- the block of an element of a list, between two others
abbrev pub element_block : ℕ → ℕ → ℕ → ListElement → Block
element_block list previous next element =
    record { kind = kinds.Element; bytes = layout (list ∷ previous ∷ next ∷ element.datum ∷ []) [] }

-- the elements of a list, with what stands before and behind them
abbrev pub elements_between : ℕ → ℕ → ℕ → List ListElement → Entries
elements_between list previous next elements = linked addr_of (element_block list) previous next elements

-- the blocks of a list
abbrev pub list_entries : ℕ → ListRow → Entries
list_entries list row =
    (list, list_block row.user (length row.elements) (first_of addr_of 0 row.elements) (last_of addr_of 0 row.elements))
    ∷ elements_between list 0 0 row.elements

-- the numbers of an element fit their words
pub record ElementFits (element : ListElement) : Type 0 where
  pub addr : element.addr < 2 ^ 64
  pub datum : element.datum < 2 ^ 64

-- the numbers of a list fit their words
pub record RowFits (row : ListRow) : Type 0 where
  pub user : row.user < 2 ^ 64
  pub elements : All ElementFits row.elements

-- a list is kept among these blocks
pub record KeepsList (blocks : Blocks) (list : ℕ) (row : ListRow) : Type 0 where
  pub rest : Entries
  pub stands : BlocksAre blocks (list_entries list row ++ rest)
  pub few : length row.elements < 2 ^ 32
  pub fits : RowFits row
