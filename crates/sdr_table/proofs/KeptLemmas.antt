-- What the words of a table's block say of the table that is kept there.
use Rattle.std.proofs.Common.{◌≡◌, ℕ, ◌*◌, ◌≤◌, List, [], ◌∷◌, Option, None, arith}
use Rattle.sdr_base.specs.Blocks.{Block, IsKind, Reaches}
use Rattle.sdr_base.specs.Tables.{TableRow}
use Rattle.sdr_base.specs.Words.{HasWord}
use Rattle.sdr_base.specs.declared.kind.Kind.TheVariants as kinds
use Rattle.sdr_base.proofs.WritingLemmas.{reaches, word_is}
use Rattle.sdr_table.specs.Calls.{TellsOfTable}
use Rattle.sdr_table.specs.Kept.{KeepsTable, SomeTable, first_above}

-- the words in front of the rows
abbrev pub head : TableRow → List ℕ
head table = table.user ∷ table.size ∷ table.rows ∷ []

-- none of the counts is too high
pub record IsWithin (rows size : ℕ) : Type 0 where
  pub few : rows ≤ 1048576
  pub short : size ≤ 1048576
  pub whole : rows * size ≤ 1048576

pub within : (rows size : ℕ) → first_above rows size ≡ None → IsWithin rows size
within rows size none = grind arith

pub fits : {found : Option Block} {table : TableRow} → KeepsTable found table → IsWithin table.rows table.size
fits {found} {table} k = within table.rows table.size k.fits

-- the block has its words
pub table_reaches : {found : Option Block} → SomeTable found → Reaches found 24
table_reaches {found} s = reaches found kinds.Table (head s.table) s.table.bytes 24 s.keeps.block (omega arith)

-- the number in a word of the block
pub user_is : {found : Option Block} {value : ℕ} {table : TableRow} → HasWord found 0 value → KeepsTable found table → value ≡ table.user
user_is {found} {value} {table} h k =
    word_is found kinds.Table (head table) table.bytes 0 value k.block (omega arith) k.user h

pub size_is : {found : Option Block} {value : ℕ} {table : TableRow} → HasWord found 1 value → KeepsTable found table → value ≡ table.size
size_is {found} {value} {table} h k =
    let short = (fits k).short in
    word_is found kinds.Table (head table) table.bytes 1 value k.block (omega arith) (omega (arith, short)) h

pub rows_is : {found : Option Block} {value : ℕ} {table : TableRow} → HasWord found 2 value → KeepsTable found table → value ≡ table.rows
rows_is {found} {value} {table} h k =
    let few = (fits k).few in
    word_is found kinds.Table (head table) table.bytes 2 value k.block (omega arith) (omega (arith, few)) h

-- two numbers are the two that were meant
pub both_are : {a b c d : ℕ} → a ≡ c → b ≡ d → ◌≡◌ {A = ℕ × ℕ} (a, b) (c, d)
both_are p q = λ i. (p i, q i)

-- what is told of each table that is kept
pub told : {A : Type 0} {found : Option Block} (of : TableRow → A) (value : A) → IsKind found kinds.Table →
    ((table : TableRow) → KeepsTable found table → value ≡ of table) → TellsOfTable of found value
told of value kind tells = record { kind = kind; tells = tells }
