-- The entry at a place.
use Rattle.std.proofs.Common.{◌≡◌, ◌≢◌, ℕ, zero, suc, ◌+◌, ◌-◌, ◌≤◌, List, [], ◌∷◌, ◌++◌, length, take, drop, get_or, None, Some, inl, inr, refl, sym, ap, ◌∙◌, arith, subst, length-drop}
use Rattle.std.specs.Prelude.{slice_get, replicate, ◌⊎◌}
use Rattle.std.proofs.lemmas.List.{length-take-le, take-append-drop}
use Rattle.std.proofs.Math.Seq.{take-append_seam}
use Rattle.std.proofs.Math.Seq.{drop-append_seam}
use Rattle.std.proofs.Math.ListN.{drop_of_length-le}
use Rattle.sdr_base.specs.Catalogue.{NameRow, name_addr}
use Rattle.sdr_base.specs.Linked.{first_of}
use Rattle.sdr_base.specs.Objects.{Heap}
use Rattle.sdr_base.specs.Words.{HasWord}
use Rattle.sdr_base.specs.Blocks.{HasBytes}
use Rattle.sdr_cat.specs.Calls.{LacksEntry, ReadsEntry}
use Rattle.sdr_cat.specs.Kept.{KeepsEntry, KeepsNames, SomeEntry, SomeNames}
use Rattle.sdr_cat.specs.Walks.{Counts, Steps, TellsEntry}
use Rattle.sdr_cat.proofs.NameLemmas.{name_read}
use Rattle.sdr_cat.proofs.WalkLemmas.{HasFirst, all_passed, begun, empty_or, has_first, here, none_at_zero, none_left, passes}

pub starts : {heap : Heap} {cursor : ℕ} → cursor ≡ heap.roots 89 → Steps heap cursor 0
starts e = record { previous = 0; walks = begun e }

pub steps_on : {heap : Heap} {cursor i next : ℕ} → Steps heap cursor i → cursor ≢ 0 → HasWord (heap.blocks cursor) 0 next → Steps heap next (i + 1)
steps_on {cursor = cursor} s n h = record { previous = cursor; walks = passes s.walks n h (λ row n k. refl) }

pub counts : {heap : Heap} {cursor i place : ℕ} → Steps heap cursor i → i ≡ place → Counts heap place cursor
counts s e = record {
  counted = λ names k.
      let w = s.walks.walked names k in
      w.at_cursor
      ∙ ap (first_of name_addr 0) (sym (drop-append_seam w.passed w.left) ∙ ap (λ n. drop n (w.passed ++ w.left)) (w.counted ∙ e)
      ∙ ap (drop _) (sym w.whole));
}

pub counts_none : {heap : Heap} {cursor i place : ℕ} → Steps heap cursor i → cursor ≡ 0 → i ≤ place → Counts heap place 0
counts_none {place = place} s z le = record {
  counted = λ names k.
      let w = s.walks.walked names k in
      let n = ap (length {A = NameRow}) (all_passed w (none_left w k z)) in
      let c = w.counted in
      sym (ap (first_of name_addr 0) (drop_of_length-le names {i = place} (omega (arith, n, c, le))));
}

-- one between two parts has its place
get-append : (xs : List NameRow) (x : NameRow) (ys : List NameRow) → slice_get (xs ++ (x ∷ ys)) (length xs) ≡ Some x
get-append [] x ys = refl
get-append (z ∷ xs) x ys = get-append xs x ys

get-past : (xs : List NameRow) (n : ℕ) → drop n xs ≡ [] → slice_get xs n ≡ None
get-past [] n e = refl
get-past (x ∷ xs) zero e = let d : x ∷ xs ≡ [] = e in cc
get-past (x ∷ xs) (suc n) e = get-past xs n e

-- the entry at a place, with those on either side
pub record IsAt (names : List NameRow) (place : ℕ) : Type 0 where
  pub row : NameRow
  pub behind : List NameRow
  pub whole : names ≡ take place names ++ (row ∷ behind)
  pub here : slice_get names place ≡ Some row

is_at : (names : List NameRow) (place : ℕ) → HasFirst (drop place names) → IsAt names place
is_at names place e =
    let whole = sym (take-append-drop place names) ∙ ap (λ (t : List NameRow). take place names ++ t) e.is in
    let some = ap (length {A = NameRow}) e.is in
    let left = length-drop place names in
    let n : length (take place names) ≡ place = length-take-le place names (omega (arith, some, left)) in
    record {
      row = e.row;
      behind = e.behind;
      whole = whole;
      here =
          ap (λ (t : List NameRow). slice_get t place) whole
          ∙ ap (slice_get (take place names ++ (e.row ∷ e.behind))) (sym n)
          ∙ get-append (take place names) e.row e.behind;
    }

module _ {heap : Heap} {place addr : ℕ} (c : Counts heap place addr) where
  pub at_place : addr ≢ 0 → (names : List NameRow) → KeepsNames heap names → IsAt names place
  at_place n names k = is_at names place (has_first (drop place names) (λ z. n (c.counted names k ∙ z)))

  -- its block is there
  pub entry_there : (n : addr ≢ 0) → (names : List NameRow) → (k : KeepsNames heap names) → KeepsEntry (heap.blocks addr) (at_place n names k).row (first_of name_addr 0 (at_place n names k).behind)
  unfolding at_place is_at
  entry_there n names k =
      let f = has_first (drop place names) (λ z. n (c.counted names k ∙ z)) in
      let e = at_place n names k in
      subst (λ p. KeepsEntry (heap.blocks p) e.row (first_of name_addr 0 e.behind)) (sym (c.counted names k ∙ ap (first_of name_addr 0) f.is))
      (here k (take place names) e.row e.behind e.whole)

  pub some_there : addr ≢ 0 → SomeNames heap → SomeEntry (heap.blocks addr)
  some_there n s = record { row = _; next = _; keeps = entry_there n s.names s.keeps }

  nowhere : (names : List NameRow) → KeepsNames heap names → addr ≡ 0 → (drop place names ≡ []) ⊎ HasFirst (drop place names) → drop place names ≡ []
  unfolding is_at
  nowhere names k z (inl e) = e
  nowhere names k z (inr f) =
      let e = is_at names place f in
      absurd (none_at_zero k (here k (take place names) e.row e.behind e.whole) (sym (c.counted names k ∙ ap (first_of name_addr 0) f.is) ∙ z))

  pub lacks_entry : addr ≡ 0 → LacksEntry place heap
  lacks_entry z = record { lacks = λ names k. get-past names place (nowhere names k z (empty_or (drop place names))) }

  -- it was read
  pub reads_entry : {into : List ℕ} {count kind object : ℕ} (bytes : List ℕ) (n : addr ≢ 0) → HasBytes (heap.blocks addr) 24 32 bytes → TellsEntry (heap.blocks addr) (kind, object) →
      count ≡ get_or bytes 0 0 → take count into ≡ take count (drop 1 bytes) → ReadsEntry place heap (count, kind, object) into
  reads_entry {into} {count} bytes n h t l copied = record {
    has = λ names k.
        let at = at_place n names k in
        let e = entry_there n names k in
        let b = name_read _ at.row e.fits.short e.block h in
        let size : count ≡ length at.row.name = l ∙ ap (λ (x : List ℕ). get_or x 0 0) b in
        record {
          row = at.row;
          here = at.here;
          read = record {
            length = size;
            type_number = ap (λ (v : ℕ × ℕ). v.0) (t.tells at.row _ e);
            object = ap (λ (v : ℕ × ℕ). v.1) (t.tells at.row _ e);
            name =
                copied ∙ ap (λ (x : List ℕ). take count (drop 1 x)) b
                ∙ ap (λ m. take m (at.row.name ++ replicate (31 - length at.row.name) 0)) size
                ∙ take-append_seam at.row.name (replicate (31 - length at.row.name) 0);
          };
        };
  }
