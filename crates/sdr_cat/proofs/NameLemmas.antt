-- Names as bytes, and what an entry's block says.
use Rattle.std.proofs.Common.{◌≡◌, ℕ, ◌-◌, ◌≤◌, ◌<◌, ◌^◌, List, [], ◌∷◌, ◌++◌, length, take, drop, get_or, Bool, true, false, refl, sym, ap, ◌∙◌, arith, subst, nat_eq, append-nil}
use Rattle.std.specs.Bool.{Decides}
use Rattle.std.specs.Cmp.{unsigned_Decides}
use Rattle.std.specs.Cmp.Lexicographic.{pointwise}
use Rattle.std.specs.Prelude.{All, Option, Some, replicate}
use Rattle.std.proofs.Math.Seq.{take-append_seam}
use Rattle.std.proofs.lemmas.List.{drop-replicate, length-append, length-replicate, take_all}
use Rattle.std.proofs.lemmas.List.Elements.{All-head}
use Rattle.std.proofs.lemmas.Slice.Eq.{slice_eq-Decides}
use Rattle.sdr_base.specs.Blocks.{Block, HasBytes, Reaches}
use Rattle.sdr_base.specs.Catalogue.{NameRow, name_addr, name_block, name_bytes}
use Rattle.sdr_base.specs.Linked.{first_of}
use Rattle.sdr_base.specs.Words.{HasWord, layout}
use Rattle.sdr_base.specs.declared.kind.Kind.TheVariants as kinds
use Rattle.sdr_base.proofs.LayoutLemmas.{length-layout}
use Rattle.sdr_base.proofs.WritingLemmas.{word_is}
use Rattle.sdr_cat.specs.Kept.{NameFits}
use Rattle.sdr_cat.specs.Names.{is_named}
use Rattle.sdr_cat.specs.Walks.{Compares}

-- the bytes of a buffer where the name was copied behind its length
pub stored_is : (name buf : List ℕ) → length name ≤ 31 → buf ≡ name →
    length name ∷ (buf ++ drop (length name) (replicate 31 0)) ≡ name_bytes name
stored_is name buf short e =
    ap (λ (b : List ℕ). length name ∷ (b ++ drop (length name) (replicate 31 0))) e
    ∙ ap (λ (z : List ℕ). length name ∷ (name ++ z)) (drop-replicate (length name) 31 0)

pub length-name_bytes : (name : List ℕ) → length name ≤ 31 → length (name_bytes name) ≡ 32
length-name_bytes name short =
    let a = length-append name (replicate {A = ℕ} (31 - length name) 0) in
    let z = length-replicate {A = ℕ} (31 - length name) 0 in omega (arith, a, z)

-- names of the same bytes are the same
bytes_same : (a b : List ℕ) → name_bytes a ≡ name_bytes b → a ≡ b
bytes_same a b e =
    let n : length a ≡ length b = ap (λ (l : List ℕ). get_or l 0 0) e in
    let t : a ++ replicate (31 - length a) 0 ≡ b ++ replicate (31 - length b) 0 = ap (λ (l : List ℕ). drop 1 l) e in
    sym (take-append_seam a (replicate (31 - length a) 0)) ∙ ap (take (length a)) t
    ∙ ap (λ k. take k (b ++ replicate (31 - length b) 0)) n ∙ take-append_seam b (replicate (31 - length b) 0)

-- two tests of the same
alike : (r s : Bool) (P Q : Type 0) → Decides r P → Decides s Q → (P → Q) → (Q → P) → r ≡ s
alike true true P Q p q f g = refl
alike true false P Q p q f g = sym (q.1 (f (p.0 refl)))
alike false true P Q p q f g = p.1 (g (q.0 refl))
alike false false P Q p q f g = refl

pub test_is : (name other : List ℕ) → pointwise nat_eq (name_bytes other) (name_bytes name) ≡ pointwise nat_eq name other
test_is name other =
    alike _ _ (name_bytes other ≡ name_bytes name) (name ≡ other)
    (slice_eq-Decides unsigned_Decides (name_bytes other) (name_bytes name) _ refl)
    (slice_eq-Decides unsigned_Decides name other _ refl)
    (λ e. sym (bytes_same other name e)) (λ e. ap name_bytes (sym e))

-- the words of an entry
abbrev pub words : ℕ → NameRow → List ℕ
words next row = next ∷ row.type_number ∷ row.object ∷ []

-- the bytes of an entry's name
pub name_read : {found : Option Block} {bytes : List ℕ} (next : ℕ) (row : NameRow) → length row.name ≤ 31 →
    found ≡ Some (name_block 0 next row) → HasBytes found 24 32 bytes → bytes ≡ name_bytes row.name
unfolding layout
name_read {found} {bytes} next row short e h =
    let at : HasBytes (Some (name_block 0 next row)) 24 32 bytes = subst (λ o. HasBytes o 24 32 bytes) e h in
    at ∙ take_all 32 (name_bytes row.name) (let l = length-name_bytes row.name short in omega (arith, l))

-- the test of an entry's name
pub compared : {found : Option Block} {answer : Bool} (name : List ℕ) (next : ℕ) (row : NameRow) → length row.name ≤ 31 →
    found ≡ Some (name_block 0 next row) → Compares found (name_bytes name) answer → answer ≡ is_named name row
compared name next row short e c =
    c.is ∙ ap (λ (l : List ℕ). pointwise nat_eq l (name_bytes name)) (name_read next row short e c.has)
    ∙ test_is name row.name

-- an entry's block has 56 bytes
pub name_reaches : {found : Option Block} (next : ℕ) (row : NameRow) → length row.name ≤ 31 →
    found ≡ Some (name_block 0 next row) → Reaches found 56
name_reaches next row short e =
    let l = length-layout (words next row) (name_bytes row.name) in let n = length-name_bytes row.name short in
    rw e (omega (arith, l, n))

pub first_fits : (rows : List NameRow) → All NameFits rows → first_of name_addr 0 rows < 2 ^ 64
first_fits [] f = omega arith
first_fits (row ∷ rows) f = (All-head NameFits row rows f).addr

-- the numbers in an entry's words
pub next_is : {found : Option Block} {value : ℕ} (next : ℕ) (row : NameRow) → next < 2 ^ 64 →
    found ≡ Some (name_block 0 next row) → HasWord found 0 value → value ≡ next
next_is {found} {value} next row fits e h =
    word_is found kinds.Name (words next row) (name_bytes row.name) 0 value e (omega arith) fits h

pub type_is : {found : Option Block} {value : ℕ} (next : ℕ) (row : NameRow) → NameFits row →
    found ≡ Some (name_block 0 next row) → HasWord found 1 value → value ≡ row.type_number
type_is {found} {value} next row fits e h =
    let t = fits.type_number in
    word_is found kinds.Name (words next row) (name_bytes row.name) 1 value e (omega arith) (omega (arith, t)) h

pub object_is : {found : Option Block} {value : ℕ} (next : ℕ) (row : NameRow) → NameFits row →
    found ≡ Some (name_block 0 next row) → HasWord found 2 value → value ≡ row.object
object_is {found} {value} next row fits e h =
    word_is found kinds.Name (words next row) (name_bytes row.name) 2 value e (omega arith) fits.object h

-- the words of an entry in front, and its name behind them
pub bytes_are : (next kind object : ℕ) (name front behind : List ℕ) → front ≡ layout (next ∷ kind ∷ object ∷ []) [] → behind ≡ name_bytes name →
    take 24 (front ++ replicate 32 0) ++ (behind ++ drop 32 (drop 24 (front ++ replicate 32 0))) ≡ layout (next ∷ kind ∷ object ∷ []) (name_bytes name)
unfolding layout
bytes_are next kind object name front behind f b =
    ap (λ (l : List ℕ). take 24 (l ++ replicate 32 0) ++ (behind ++ drop 32 (drop 24 (l ++ replicate 32 0)))) f
    ∙ ap (layout (next ∷ kind ∷ object ∷ [])) (append-nil behind ∙ b)
