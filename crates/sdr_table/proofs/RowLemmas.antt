-- A row in the block of a table.
use Rattle.std.proofs.Common.{◌≡◌, ℕ, suc, ◌+◌, ◌*◌, ◌≤◌, ◌<◌, List, [], ◌∷◌, ◌++◌, length, take, drop, Some, sym, ap, ◌∙◌, arith, subst, append_assoc}
use Rattle.std.specs.Prelude.{Option}
use Rattle.std.proofs.lemmas.Nat.{mul-le}
use Rattle.std.proofs.lemmas.List.{take-append-le, take_all}
use Rattle.sdr_base.specs.Blocks.{Block, Blocks, HasBytes, IsKind, Reaches, overwritten, with_block}
use Rattle.sdr_base.specs.Entries.{BlocksAre}
use Rattle.sdr_base.specs.Making.{besides}
use Rattle.sdr_base.specs.Objects.{Heap, with_bytes}
use Rattle.sdr_base.specs.Parts.{overwrite, part}
use Rattle.sdr_base.specs.Tables.{TableRow, table_block}
use Rattle.sdr_base.specs.Words.{HasWord, layout}
use Rattle.sdr_base.specs.declared.kind.Kind.TheVariants as kinds
use Rattle.sdr_base.proofs.HeapLemmas.{heap_blocks}
use Rattle.sdr_base.proofs.LayoutLemmas.{layout-append, length-layout}
use Rattle.sdr_base.proofs.StandingLemmas.{written_at}
use Rattle.std.proofs.Math.Seq.{drop-append-add, take-append-add}
use Rattle.sdr_base.proofs.PartsLemmas.{length-part}
use Rattle.sdr_table.proofs.KeptLemmas.{head, rows_is, size_is}
use Rattle.sdr_table.specs.Kept.{KeepsTable, SomeTable}
use Rattle.sdr_table.specs.Rows.{HasRow, IsNoRow, IsSize, ReadsRow, SetsRow, row_bytes, with_row}

-- a row ends within the rows
pub row_end : (rows size row : ℕ) → row < rows → size * row + size ≤ rows * size
row_end rows size row less =
    let l : suc row * size ≤ rows * size = mul-le (suc row) size rows size (omega arith) (omega arith) in
    let e : suc row * size ≡ size * row + size = omega arith in omega (arith, l, e)

-- the table has the row, of the bytes that the two words say
pub has_row : {found : Option Block} {row rows size : ℕ} → IsKind found kinds.Table → HasWord found 2 rows → row < rows →
    HasWord found 1 size → HasRow found row size
has_row {found} {row} {rows} {size} kind r less s = record {
  kind = kind;
  is = λ table k. let n = rows_is r k in record { inside = omega (arith, n, less); bytes = size_is s k };
}

-- the table hasn't the row
pub no_row : {found : Option Block} {row rows : ℕ} → IsKind found kinds.Table → HasWord found 2 rows → rows ≤ row →
    IsNoRow found row rows
no_row kind r above = record { kind = kind; counts = λ table k. rows_is r k; outside = above }

-- the row's bytes are in the block
pub row_reaches : {found : Option Block} {row size : ℕ} → SomeTable found → HasRow found row size →
    Reaches found (24 + size * row + size)
row_reaches {found} {row} {size} s h =
    let is = h.is s.table s.keeps in
    let l = length-layout (head s.table) s.table.bytes in
    let e = row_end s.table.rows s.table.size row is.inside in
    let filled = s.keeps.filled in
    rw (s.keeps.block, is.bytes) (omega (arith, l, e, filled))

-- the words in front of the rows, as bytes
abbrev front : TableRow → List ℕ
front table = layout (head table) []

length-front : (table : TableRow) → length (front table) ≡ 24
length-front table = length-layout (head table) []

-- bytes from a place in the rows on
drop_front : (table : TableRow) (n : ℕ) → drop (24 + n) (layout (head table) table.bytes) ≡ drop n table.bytes
drop_front table n =
    ap (drop (24 + n)) (sym (layout-append (head table) table.bytes))
    ∙ ap (λ k. drop (k + n) (front table ++ table.bytes)) (sym (length-front table))
    ∙ drop-append-add (front table) table.bytes n

take_front : (table : TableRow) (n : ℕ) → take (24 + n) (layout (head table) table.bytes) ≡ front table ++ take n table.bytes
take_front table n =
    ap (take (24 + n)) (sym (layout-append (head table) table.bytes))
    ∙ ap (λ k. take (k + n) (front table ++ table.bytes)) (sym (length-front table))
    ∙ take-append-add (front table) table.bytes n

-- bytes that are written over the rows leave the words in front of them
overwrite_front : (table : TableRow) (n : ℕ) (from : List ℕ) →
    overwrite (24 + n) from (layout (head table) table.bytes) ≡ layout (head table) (overwrite n from table.bytes)
overwrite_front table n from =
    let past : (24 + n) + length from ≡ 24 + (n + length from) = omega arith in
    let behind : drop ((24 + n) + length from) (layout (head table) table.bytes) ≡ drop (n + length from) table.bytes =
    ap (λ k. drop k (layout (head table) table.bytes)) past ∙ drop_front table (n + length from) in
    let D = drop (n + length from) table.bytes in
    ap (λ (l : List ℕ). (take (24 + n) (layout (head table) table.bytes) ++ from) ++ l) behind
    ∙ ap (λ (l : List ℕ). (l ++ from) ++ D) (take_front table n)
    ∙ ap (λ (l : List ℕ). l ++ D) (append_assoc (front table) (take n table.bytes) from)
    ∙ append_assoc (front table) (take n table.bytes ++ from) D
    ∙ layout-append (head table) (overwrite n from table.bytes)

-- a row that was read
read_of : {found : Option Block} {row size : ℕ} {into : List ℕ} (table : TableRow) → KeepsTable found table → IsSize table row size →
    HasBytes found (24 + size * row) size into → into ≡ row_bytes table row
read_of {found} {row} {size} {into} table k is h =
    let at : HasBytes (Some (table_block table)) (24 + size * row) size into = subst (λ o. HasBytes o (24 + size * row) size into) k.block h in
    at ∙ ap (λ n. part (24 + n * row) n (layout (head table) table.bytes)) is.bytes
    ∙ ap (take table.size) (drop_front table (table.size * row))

pub row_read : {found : Option Block} {row size : ℕ} (into rest : List ℕ) (count : ℕ) → HasRow found row size → size ≤ 4096 →
    count ≡ size → HasBytes found (24 + size * row) count into → ReadsRow found row size (into ++ rest)
row_read {found} {row} {size} into rest count h short e got = record {
  has = h;
  short = short;
  bytes = λ table k.
      let is = h.is table k in
      let all = read_of table k is (subst (λ n. HasBytes found (24 + size * row) n into) e got) in
      let filled = k.filled in
      let last = row_end table.rows table.size row is.inside in
      let long : length into ≡ size =
      ap length all ∙ length-part (table.size * row) table.size table.bytes (omega (arith, filled, last)) ∙ sym is.bytes in
      take-append-le size into rest (omega (arith, long)) ∙ take_all size into (omega (arith, long)) ∙ all;
}

-- a row that was set
pub row_set : {addr row size : ℕ} {old new : Heap} (from : List ℕ) → HasRow (old.blocks addr) row size → length from ≡ size →
    new ≡ with_bytes old addr (24 + size * row) from → SetsRow addr row from old new
row_set {addr} {row} {size} {old} {new} from h e w = record {
  has = subst (HasRow (old.blocks addr) row) (sym e) h;
  changes = λ table k. record {
    kept = λ rest s.
        let is = h.is table k in
        let there : overwritten (old.blocks addr) (24 + size * row) from ≡ Some (table_block (with_row table row from)) =
        ap (λ o. overwritten o (24 + size * row) from) k.block
        ∙ ap (λ n. overwritten (Some (table_block table)) (24 + n * row) from) is.bytes
        ∙ ap (λ (l : List ℕ). Some (record { kind = kinds.Table; bytes = l })) (overwrite_front table (table.size * row) from) in
        subst (λ (b : Blocks). BlocksAre b ((addr, table_block (with_row table row from)) ∷ rest))
        (ap (with_block old.blocks addr) (sym there) ∙ sym (heap_blocks w))
        (written_at old.blocks addr (table_block table) (table_block (with_row table row from)) [] rest s);
  };
  same = ap besides w;
}
