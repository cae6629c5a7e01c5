-- The catalogue is walked, entry by entry.
use Rattle.std.proofs.Common.{inl, inr, ◌≡◌, ◌≢◌, ℕ, ◌+◌, ◌*◌, ◌≤◌, List, [], ◌∷◌, ◌++◌, length, Bool, true, false, cond, refl, sym, ap, ◌∙◌, arith, subst, append_assoc, append-nil, length-append}
use Rattle.std.specs.Prelude.{All, Option, Some, None, find, Ok, ◌⊎◌}
use Rattle.std.specs.Option.{option_or}
use Rattle.std.proofs.lemmas.List.Elements.{All-head, All-tail}
use Rattle.std.proofs.lemmas.List.Folds.{find-append}
use Rattle.sdr_base.specs.Blocks.{Block, Reaches}
use Rattle.sdr_base.specs.Catalogue.{NameRow, catalogue_entries, name_addr, name_block, name_bytes}
use Rattle.sdr_base.specs.Entries.{Few, BlocksAre}
use Rattle.sdr_base.specs.Linked.{first_of}
use Rattle.sdr_base.specs.Objects.{Heap}
use Rattle.sdr_base.specs.Words.{HasWord}
use Rattle.sdr_base.specs.Works.{Looks}
use Rattle.sdr_base.specs.declared.has_heap.HasHeap.{Ghosts}
use Rattle.sdr_base.proofs.LinkedLemmas.{last-append, length-linked}
use Rattle.sdr_base.proofs.StandingLemmas.{at-nowhere}
use Rattle.sdr_base.proofs.TransactionLemmas.{reason_then, touches_then}
use Rattle.sdr_base.proofs.ChainLemmas.{linked_found}
use Rattle.sdr_cat.specs.Kept.{KeepsEntry, KeepsNames, SomeEntry, NameFits, SomeNames}
use Rattle.sdr_cat.specs.Names.{is_named}
use Rattle.sdr_cat.specs.Walks.{Compares, IsFirst, Searches, Walked, Walks}
use Rattle.sdr_cat.specs.declared.searching.Place.{Place}
use Rattle.sdr_cat.proofs.NameLemmas.{compared, first_fits, name_reaches, next_is}

-- there is a first one
pub record HasFirst (left : List NameRow) : Type 0 where
  pub row : NameRow
  pub behind : List NameRow
  pub is : left ≡ row ∷ behind

pub has_first : (left : List NameRow) → first_of name_addr 0 left ≢ 0 → HasFirst left
has_first [] n = absurd (n refl)
has_first (row ∷ behind) n = record { row = row; behind = behind; is = refl }

pub empty_or : (left : List NameRow) → (left ≡ []) ⊎ HasFirst left
empty_or [] = inl refl
empty_or (row ∷ behind) = inr (record { row = row; behind = behind; is = refl })

nothing : (left : List NameRow) → length left ≡ 0 → left ≡ []
nothing [] n = refl
nothing (row ∷ left) n = absurd (omega (arith, n))

-- what holds of all holds of one between two parts
middle : (xs : List NameRow) (x : NameRow) (ys : List NameRow) → All NameFits (xs ++ (x ∷ ys)) → All NameFits (x ∷ ys)
middle [] x ys f = f
middle (z ∷ xs) x ys f = middle xs x ys (All-tail NameFits z (xs ++ (x ∷ ys)) f)

-- one between two parts is there
pub here : {heap : Heap} {names : List NameRow} → KeepsNames heap names → (xs : List NameRow) (x : NameRow) (ys : List NameRow) → names ≡ xs ++ (x ∷ ys) →
    KeepsEntry (heap.blocks x.addr) x (first_of name_addr 0 ys)
here {heap} {names} k xs x ys e =
    let f = middle xs x ys (subst (All NameFits) e k.fits) in
    record {
      block =
          linked_found name_addr name_block heap.blocks [] k.rest 0 0 xs x ys
          (subst (λ (rows : List NameRow). BlocksAre heap.blocks (catalogue_entries rows ++ k.rest)) e k.stands);
      fits = All-head NameFits x ys f;
      small = first_fits ys (All-tail NameFits x ys f);
    }

-- no entry stands at 0
pub none_at_zero : {heap : Heap} {names : List NameRow} {row : NameRow} {addr next : ℕ} → KeepsNames heap names → KeepsEntry (heap.blocks addr) row next → addr ≢ 0
none_at_zero {heap} {names} {row} {addr} {next} k e z =
    let none : heap.blocks 0 ≡ None =
    k.stands.same 0 ∙ at-nowhere 0 (catalogue_entries names ++ k.rest) k.stands.null in
    let d : None ≡ Some (name_block 0 next row) = sym none ∙ ap heap.blocks (sym z) ∙ e.block in cc

module _ {test : NameRow → Bool} {names : List NameRow} {previous cursor i : ℕ} (w : Walked test names previous cursor i) where
  pub more : cursor ≢ 0 → HasFirst w.left
  more n = has_first w.left (λ z. n (w.at_cursor ∙ z))

  pub cut : (e : HasFirst w.left) → names ≡ w.passed ++ (e.row ∷ e.behind)
  cut e = w.whole ∙ ap (λ (t : List NameRow). w.passed ++ t) e.is

  cursor_is : (e : HasFirst w.left) → cursor ≡ e.row.addr
  cursor_is e = w.at_cursor ∙ ap (first_of name_addr 0) e.is

  pub at_cursor : {heap : Heap} → KeepsNames heap names → (e : HasFirst w.left) →
      KeepsEntry (heap.blocks cursor) e.row (first_of name_addr 0 e.behind)
  at_cursor {heap} k e =
      subst (λ p. KeepsEntry (heap.blocks p) e.row (first_of name_addr 0 e.behind)) (sym (cursor_is e))
      (here k w.passed e.row e.behind (cut e))

  -- the first one that is left doesn't pass, and is passed
  pub onward : (next : ℕ) (e : HasFirst w.left) → test e.row ≡ false → next ≡ first_of name_addr 0 e.behind →
      Walked test names cursor next (i + 1)
  onward next e fails n = record {
    passed = w.passed ++ (e.row ∷ []);
    left = e.behind;
    whole = cut e ∙ sym (append_assoc w.passed (e.row ∷ []) e.behind);
    counted = let l = length-append w.passed (e.row ∷ []) in let c = w.counted in omega (arith, l, c);
    none = find-append test w.passed (e.row ∷ []) ∙ ap (λ (o : Option NameRow). option_or o (find test (e.row ∷ []))) w.none
        ∙ ap (λ v. cond v (Some e.row) None) fails;
    at_cursor = n;
    at_previous = cursor_is e ∙ sym (last-append name_addr name_block 0 w.passed (e.row ∷ []));
  }

  -- where the cursor is 0 none is left
  ended : {heap : Heap} → KeepsNames heap names → cursor ≡ 0 → (w.left ≡ []) ⊎ HasFirst w.left → w.left ≡ []
  ended k z (inl e) = e
  ended {heap} k z (inr e) = absurd (none_at_zero k (at_cursor k e) z)

  pub none_left : {heap : Heap} → KeepsNames heap names → cursor ≡ 0 → w.left ≡ []
  none_left k z = ended k z (empty_or w.left)

  -- where as many were passed as the heap may have none is left
  pub none_more : {heap : Heap} → KeepsNames heap names → Few heap.size heap.blocks → heap.size ≤ 64 * 262144 → i ≡ 1048576 →
      w.left ≡ []
  none_more {heap} k few small all =
      let n : 16 * length (catalogue_entries names ++ k.rest) ≤ heap.size = few.few (catalogue_entries names ++ k.rest) k.stands in
      let a = length-append (catalogue_entries names) k.rest in
      let l = length-linked name_addr name_block 0 0 names in
      let whole = ap (length {A = NameRow}) w.whole in
      let both = length-append w.passed w.left in
      let c = w.counted in
      nothing w.left (omega (arith, n, a, l, whole, both, c, small, all))

  pub all_passed : w.left ≡ [] → names ≡ w.passed
  all_passed none = w.whole ∙ ap (λ (t : List NameRow). w.passed ++ t) none ∙ append-nil w.passed

  pub not_found : w.left ≡ [] → find test names ≡ None
  not_found none = ap (find test) (all_passed none) ∙ w.none

pub begun : {heap : Heap} {test : NameRow → Bool} {cursor : ℕ} → cursor ≡ heap.roots 89 → Walks heap test 0 cursor 0
begun e = record {
  walked = λ names k. record {
    passed = [];
    left = names;
    whole = refl;
    counted = refl;
    none = refl;
    at_cursor = e ∙ k.first;
    at_previous = refl;
  };
}

module _ {heap : Heap} {test : NameRow → Bool} {previous cursor i : ℕ} where
  -- the entry at the cursor is there
  pub reaches_here : SomeNames heap → Walks heap test previous cursor i → cursor ≢ 0 → Reaches (heap.blocks cursor) 56
  reaches_here k s n =
      let w = s.walked k.names k.keeps in
      let h = at_cursor w k.keeps (more w n) in
      name_reaches _ (more w n).row h.fits.short h.block

  -- it is passed
  pub passes : {next : ℕ} → Walks heap test previous cursor i → cursor ≢ 0 → HasWord (heap.blocks cursor) 0 next →
      ((row : NameRow) (n : ℕ) → KeepsEntry (heap.blocks cursor) row n → test row ≡ false) → Walks heap test cursor next (i + 1)
  passes {next} s n word fails = record {
    walked = λ names k.
        let w = s.walked names k in
        let e = more w n in
        let h = at_cursor w k e in
        onward w next e (fails e.row _ h) (next_is _ e.row h.small h.block word);
  }

-- the name is there
pub found_here : {heap : Heap} {previous cursor i : ℕ} (name : List ℕ) (addr before : ℕ) → Walks heap (is_named name) previous cursor i → cursor ≢ 0 →
    ((row : NameRow) (n : ℕ) → KeepsEntry (heap.blocks cursor) row n → is_named name row ≡ true) → addr ≡ cursor → before ≡ previous →
    Searches heap name (Some (record { addr = addr; previous = before }))
found_here {heap} name addr before s n holds a b = record {
  searched = λ names k.
      let w = s.walked names k in
      let e = more w n in
      record {
        before = w.passed;
        row = e.row;
        behind = e.behind;
        whole = cut w e;
        none = w.none;
        named = holds e.row _ (at_cursor w k e);
        at_addr = a ∙ cursor_is w e;
        at_previous = b ∙ w.at_previous;
      };
}

-- it isn't
pub found_none : {heap : Heap} {previous cursor i : ℕ} (name : List ℕ) → Walks heap (is_named name) previous cursor i → cursor ≡ 0 →
    Searches heap name None
found_none name s z = record {
  searched = λ names k. let w = s.walked names k in not_found w (none_left w k z);
}

pub found_no_more : {heap : Heap} {previous cursor i : ℕ} (name : List ℕ) → Walks heap (is_named name) previous cursor i → Few heap.size heap.blocks →
    heap.size ≤ 64 * 262144 → i ≡ 1048576 → Searches heap name None
found_no_more name s few small all = record {
  searched = λ names k. let w = s.walked names k in not_found w (none_more w k few small all);
}

-- an answer of a comparison is that with whichever entry is there
pub answered : {found : Option Block} {answer : Bool} (name : List ℕ) → Compares found (name_bytes name) answer →
    (row : NameRow) (n : ℕ) → KeepsEntry found row n → is_named name row ≡ answer
answered name c row n h = sym (compared name n row h.fits.short h.block c)

-- the entry at the place of a name
pub place_entry : {heap : Heap} {name : List ℕ} {place : Place} → SomeNames heap → Searches heap name (Some place) → SomeEntry (heap.blocks place.addr)
place_entry {heap} k s =
    let f = s.searched k.names k.keeps in
    record {
      row = f.row;
      next = first_of name_addr 0 f.behind;
      keeps =
          subst (λ p. KeepsEntry (heap.blocks p) f.row (first_of name_addr 0 f.behind)) (sym f.at_addr)
          (here k.keeps f.before f.row f.behind f.whole);
    }

-- and the entry that is found is that
pub place_found : {names : List NameRow} {name : List ℕ} {place : Place} → (f : IsFirst name names place) → find (is_named name) names ≡ Some f.row
place_found {name = name} f =
    ap (find (is_named name)) f.whole ∙ find-append (is_named name) f.before (f.row ∷ f.behind)
    ∙ ap (λ (o : Option NameRow). option_or o (find (is_named name) (f.row ∷ f.behind))) f.none
    ∙ ap (λ v. cond v (Some f.row) (find (is_named name) f.behind)) f.named
