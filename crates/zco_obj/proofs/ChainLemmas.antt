-- An object opened at a side, and the links of that side.
use Rattle.std.proofs.Common.{◌≡◌, ◌≢◌, ◌<◌, ℕ, Bool, List, [], ◌∷◌, ◌++◌, length, set, Some, refl, sym, ap, ◌∙◌, arith, subst, append_assoc}
use Rattle.std.specs.Prelude.{◌==◌, if◌then◌else◌}
use Rattle.std.proofs.lemmas.Bool.{ne_eqb}
use Rattle.byteorder.specs.Endian.{big_bytes}
use Rattle.sdr_base.specs.Blocks.{Blocks, Reaches}
use Rattle.sdr_base.specs.Entries.{Entries, BlocksAre}
use Rattle.sdr_base.specs.Linked.{first_of, last_of, linked}
use Rattle.sdr_base.specs.Making.{besides}
use Rattle.sdr_base.specs.Objects.{Heap}
use Rattle.sdr_base.specs.Words.{layout, with_word}
use Rattle.sdr_base.specs.ZcoObjects.{CapsuleRow, ObjectRow, capsule_addr, capsule_block, capsule_entries, extent_entries, object_block, object_entries}
use Rattle.sdr_base.specs.declared.kind.Kind.TheVariants as kinds
use Rattle.sdr_base.proofs.ChainLemmas.{last_holds}
use Rattle.sdr_base.proofs.HeapLemmas.{heap_blocks}
use Rattle.sdr_base.proofs.LayoutLemmas.{length-layout, overwrite-layout}
use Rattle.sdr_base.proofs.LinkedLemmas.{last_nonzero, relinked_next}
use Rattle.sdr_base.proofs.StandingLemmas.{rotated}
use Rattle.sdr_base.proofs.WritingLemmas.{word_set}
use Rattle.zco_obj.specs.Chains.{LinksLast, LinksNext, capsules, ends_block, ends_words, first_field, last_field, threaded, with_capsules}
use Rattle.zco_obj.specs.declared.linking.Side.{Side}
use Rattle.zco_obj.specs.declared.linking.Side.TheVariants as sides

-- the blocks of an object around a side
abbrev pub around : Side → ObjectRow → Entries
around sides.Headers row = extent_entries row.extents ++ capsule_entries row.trailers
around sides.Trailers row = capsule_entries row.headers ++ extent_entries row.extents

-- the block of an object, and a side of it, before all else
abbrev pub focused : Side → ℕ → ObjectRow → List CapsuleRow → Entries → Entries
focused side object row rows rest =
    threaded side object row (first_of capsule_addr 0 rows) (last_of capsule_addr 0 rows) 0 rows ++ (around side row ++ rest)

-- an object is opened at a side
pub opened : {blocks : Blocks} (side : Side) (object : ℕ) (row : ObjectRow) (rest : Entries) →
    BlocksAre blocks (object_entries object row ++ rest) →
    BlocksAre blocks (focused side object row (capsules side row) rest)
opened {blocks} sides.Headers object row rest s =
    let H = capsule_entries row.headers in
    let X = extent_entries row.extents in
    let T = capsule_entries row.trailers in
    subst (λ (es : Entries). BlocksAre blocks ((object, object_block row) ∷ es))
    (ap (λ (es : Entries). es ++ rest) (append_assoc H X T) ∙ append_assoc H (X ++ T) rest) s
opened {blocks} sides.Trailers object row rest s =
    let H = capsule_entries row.headers in
    let X = extent_entries row.extents in
    let T = capsule_entries row.trailers in
    rotated blocks (object, object_block row) (H ++ X) T rest
    (subst (λ (es : Entries). BlocksAre blocks ((object, object_block row) ∷ es)) (append_assoc (H ++ X) T rest) s)

-- and closed, with others there
pub closed : {blocks : Blocks} (side : Side) (object : ℕ) (row : ObjectRow) (rows : List CapsuleRow) (rest : Entries) →
    BlocksAre blocks (focused side object row rows rest) → BlocksAre blocks (object_entries object (with_capsules side rows row) ++ rest)
closed {blocks} sides.Headers object row rows rest s =
    let H = capsule_entries rows in
    let X = extent_entries row.extents in
    let T = capsule_entries row.trailers in
    subst (λ (es : Entries). BlocksAre blocks ((object, object_block (record row { headers = rows })) ∷ es))
    (sym (ap (λ (es : Entries). es ++ rest) (append_assoc H X T) ∙ append_assoc H (X ++ T) rest)) s
closed {blocks} sides.Trailers object row rows rest s =
    let H = capsule_entries row.headers in
    let X = extent_entries row.extents in
    let T = capsule_entries rows in
    subst (λ (es : Entries). BlocksAre blocks ((object, object_block (record row { trailers = rows })) ∷ es))
    (sym (append_assoc (H ++ X) T rest))
    (rotated blocks (object, object_block (record row { trailers = rows })) T (H ++ X) rest s)

-- another first one, or another last one
set_first : (side : Side) (row : ObjectRow) (first last value : ℕ) →
    set (ends_words side row first last) (first_field side) value ≡ ends_words side row value last
set_first sides.Headers row first last value = refl
set_first sides.Trailers row first last value = refl

set_last : (side : Side) (row : ObjectRow) (first last value : ℕ) →
    set (ends_words side row first last) (last_field side) value ≡ ends_words side row first value
set_last sides.Headers row first last value = refl
set_last sides.Trailers row first last value = refl

first_below : (side : Side) (row : ObjectRow) (first last : ℕ) → first_field side < length (ends_words side row first last)
first_below sides.Headers row first last = omega arith
first_below sides.Trailers row first last = omega arith

last_below : (side : Side) (row : ObjectRow) (first last : ℕ) → last_field side < length (ends_words side row first last)
last_below sides.Headers row first last = omega arith
last_below sides.Trailers row first last = omega arith

first_linked : {old new : Heap} (side : Side) (object prev next : ℕ) → prev ≡ 0 → new ≡ with_word old object (first_field side) next →
    (row : ObjectRow) (last was : ℕ) (rows : List CapsuleRow) → prev ≡ last_of capsule_addr 0 rows → (rest : Entries) →
    BlocksAre old.blocks (threaded side object row (first_of capsule_addr was rows) last was rows ++ rest) →
    BlocksAre new.blocks (threaded side object row (first_of capsule_addr next rows) last next rows ++ rest)
unfolding linked
first_linked {old} {new} side object prev next z w row last was [] e rest s =
    subst (λ (ws : List ℕ). BlocksAre new.blocks
    ((object, record { kind = kinds.Object; bytes = layout ws [] }) ∷ rest))
    (set_first side row was last next)
    (word_set old.blocks new.blocks object kinds.Object (ends_words side row was last) [] (first_field side) next [] rest
    (heap_blocks w) (first_below side row was last) s)
first_linked {old} side object prev next z w row last was (x ∷ xs) e rest s =
    absurd (last_nonzero capsule_addr capsule_block old.blocks ((object, ends_block side row x.addr last) ∷ []) rest 0 was x xs s
    (sym e ∙ z))

next_linked : {old new : Heap} (side : Side) (object prev next : ℕ) → prev ≢ 0 → new ≡ with_word old prev 0 next →
    (row : ObjectRow) (last was : ℕ) (rows : List CapsuleRow) → prev ≡ last_of capsule_addr 0 rows → (rest : Entries) →
    BlocksAre old.blocks (threaded side object row (first_of capsule_addr was rows) last was rows ++ rest) →
    BlocksAre new.blocks (threaded side object row (first_of capsule_addr next rows) last next rows ++ rest)
next_linked side object prev next n w row last was [] e rest s = absurd (n e)
next_linked {old} {new} side object prev next n w row last was (x ∷ xs) e rest s =
    relinked_next capsule_addr capsule_block old.blocks new.blocks ((object, ends_block side row x.addr last) ∷ []) rest 0 0 was next
    (big_bytes 8 next) x xs
    (λ p y. ap (λ (bytes : List ℕ). Some (record { kind = kinds.Capsule; bytes = bytes }))
    (overwrite-layout (was ∷ []) y.text 0 next (omega arith)))
    (subst (λ p. new.blocks ≡ (with_word old p 0 next).blocks) e (heap_blocks w)) s

pub links_first : {old new : Heap} (side : Side) (object prev next : ℕ) → prev ≡ 0 →
    new ≡ with_word old object (first_field side) next → LinksNext side object prev next old new
links_first side object prev next z w = record {
  links = λ row last was rows e. record { kept = λ rest s. first_linked side object prev next z w row last was rows e rest s };
  same = ap besides w;
}

pub links_next : {old new : Heap} (side : Side) (object prev next : ℕ) → prev ≢ 0 → new ≡ with_word old prev 0 next →
    LinksNext side object prev next old new
links_next side object prev next n w = record {
  links = λ row last was rows e. record { kept = λ rest s. next_linked side object prev next n w row last was rows e rest s };
  same = ap besides w;
}

pub links_last : {old new : Heap} (side : Side) (object next prev : ℕ) → next ≡ 0 →
    new ≡ with_word old object (last_field side) prev → LinksLast side object next prev old new
links_last {old} {new} side object next prev z w = record {
  links = λ row first last. record {
    kept = λ rest s.
        subst (λ (n : ℕ). BlocksAre new.blocks ((object, ends_block side row first (if n == 0 then prev else last)) ∷ rest)) (sym z)
        (subst (λ (ws : List ℕ). BlocksAre new.blocks ((object, record { kind = kinds.Object; bytes = layout ws [] }) ∷ rest))
        (set_last side row first last prev)
        (word_set old.blocks new.blocks object kinds.Object (ends_words side row first last) [] (last_field side) prev [] rest
        (heap_blocks w) (last_below side row first last) s));
  };
  same = ap besides w;
}

-- some next one follows already
pub links_on : {old new : Heap} (side : Side) (object next prev : ℕ) → next ≢ 0 → new ≡ old → LinksLast side object next prev old new
links_on {old} {new} side object next prev n w = record {
  links = λ row first last. record {
    kept = λ rest s.
        subst (λ (v : Bool). BlocksAre new.blocks
        ((object, ends_block side row first (if v then prev else last)) ∷ rest))
        (sym (ne_eqb next 0 n))
        (subst (λ (b : Blocks). BlocksAre b ((object, ends_block side row first last) ∷ rest)) (sym (heap_blocks w)) s);
  };
  same = ap besides w;
}

-- the last of some first ones is there
pub last_reaches : {blocks : Blocks} (side : Side) (object : ℕ) (row : ObjectRow) (first last prev was : ℕ) (rows : List CapsuleRow)
    (rest : Entries) → BlocksAre blocks (threaded side object row first last was rows ++ rest) → prev ≡ last_of capsule_addr 0 rows →
    prev ≢ 0 → Reaches (blocks prev) 8
last_reaches side object row first last prev was [] rest s e n = absurd (n e)
last_reaches {blocks} side object row first last prev was (x ∷ xs) rest s e n =
    subst (λ p. Reaches (blocks p) 8) (sym e)
    (last_holds capsule_addr capsule_block (λ o. Reaches o 8) blocks ((object, ends_block side row first last) ∷ []) rest 0 was x xs
    (λ p y. let l = length-layout (was ∷ []) y.text in omega (arith, l)) s)

-- a header or trailer doesn't say which one is before it
pub any_previous : (p q next : ℕ) (rows : List CapsuleRow) →
    linked capsule_addr capsule_block p next rows ≡ linked capsule_addr capsule_block q next rows
unfolding linked
any_previous p q next [] = refl
any_previous p q next (x ∷ xs) = refl
