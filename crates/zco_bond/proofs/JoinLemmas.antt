-- Two chains of extents that are joined, and an object opened at its chains.
use Rattle.std.proofs.Common.{◌≡◌, ◌≢◌, ℕ, List, [], ◌∷◌, ◌++◌, refl, sym, ap, ◌∙◌, append_assoc, append-nil, eq-eqb}
use Rattle.std.specs.Prelude.{◌==◌, if◌then◌else◌}
use Rattle.std.proofs.lemmas.Bool.{ne_eqb}
use Rattle.sdr_base.specs.Blocks.{Blocks}
use Rattle.sdr_base.specs.Entries.{Entries, BlocksAre}
use Rattle.sdr_base.specs.Linked.{first_of, last_of, linked}
use Rattle.sdr_base.specs.ZcoObjects.{ExtentRow, ObjectRow, capsule_entries, extent_addr, extent_block, extent_entries, object_block, object_entries}
use Rattle.sdr_base.proofs.LinkedLemmas.{last-append, last_nonzero, linked-append}
use Rattle.sdr_base.proofs.StandingLemmas.{nonzero}
use Rattle.zco_bond.specs.Bonded.{chained}

-- one of two addresses
abbrev pub either : ℕ → ℕ → ℕ
either first second = if first == 0 then second else first

-- the block of an extent doesn't say what is before it
any_extent : (p next : ℕ) (rows : List ExtentRow) → linked extent_addr extent_block p next rows ≡ chained next rows
unfolding linked
any_extent p next [] = refl
any_extent p next (x ∷ xs) = refl

-- a chain in two pieces
pub in_two : (xs ys : List ExtentRow) → chained 0 (xs ++ ys) ≡ chained (first_of extent_addr 0 ys) xs ++ chained 0 ys
in_two xs ys =
    linked-append extent_addr extent_block 0 0 xs ys
    ∙ ap (λ (es : Entries). chained (first_of extent_addr 0 ys) xs ++ es) (any_extent (last_of extent_addr 0 xs) 0 ys)

-- the first one of two chains
pub either_first : {b : Blocks} (xs ys : List ExtentRow) (rest : Entries) (first second : ℕ) → BlocksAre b (chained 0 xs ++ rest) →
    first ≡ first_of extent_addr 0 xs → second ≡ first_of extent_addr 0 ys → either first second ≡ first_of extent_addr 0 (xs ++ ys)
unfolding linked
either_first [] ys rest first second s e f = ap (λ v. if v then second else first) (eq-eqb first 0 e) ∙ f
either_first {b} (x ∷ xs) ys rest first second s e f =
    let nz : first ≢ 0 = λ z. nonzero b x.addr _ [] _ s (sym e ∙ z) in
    ap (λ v. if v then second else first) (ne_eqb first 0 nz) ∙ e

-- the last one of two chains
pub either_last : {b : Blocks} (xs ys : List ExtentRow) (rest : Entries) (last before : ℕ) → BlocksAre b (chained 0 ys ++ rest) →
    last ≡ last_of extent_addr 0 ys → before ≡ last_of extent_addr 0 xs → either last before ≡ last_of extent_addr 0 (xs ++ ys)
either_last xs [] rest last before s e f =
    ap (λ v. if v then before else last) (eq-eqb last 0 e) ∙ f ∙ ap (last_of extent_addr 0) (sym (append-nil xs))
either_last {b} xs (y ∷ ys) rest last before s e f =
    let nz : last ≢ 0 = λ z. last_nonzero extent_addr extent_block b [] rest 0 0 y ys s (sym e ∙ z) in
    ap (λ v. if v then before else last) (ne_eqb last 0 nz) ∙ e
    ∙ sym (last-append extent_addr extent_block 0 xs (y ∷ ys))

-- an object's own block, and its chains, opened
pub opened : (object : ℕ) (row : ObjectRow) (rest : Entries) → object_entries object row ++ rest
    ≡ ((object, object_block row) ∷ []) ++ (capsule_entries row.headers ++ (extent_entries row.extents ++ (capsule_entries row.trailers ++ rest)))
opened object row rest =
    let H = capsule_entries row.headers in
    let X = extent_entries row.extents in
    let T = capsule_entries row.trailers in
    ap (λ (es : Entries). (object, object_block row) ∷ es) (append_assoc (H ++ X) T rest ∙ append_assoc H X (T ++ rest))
