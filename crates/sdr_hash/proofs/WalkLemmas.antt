-- A bucket is walked, entry by entry.
use Rattle.std.proofs.Common.{inl, inr, ◌≡◌, ◌≢◌, ℕ, ◌+◌, ◌*◌, ◌≤◌, ◌<◌, ◌^◌, List, [], ◌∷◌, ◌++◌, length, true, false, cond, refl, sym, ap, ◌∙◌, arith, subst, append_assoc, append-nil, length-append}
use Rattle.std.specs.Prelude.{All, Option, Some, None, find, get_or, ◌⊎◌}
use Rattle.std.specs.Option.{option_or}
use Rattle.std.proofs.lemmas.List.Elements.{All-head, All-tail}
use Rattle.std.proofs.lemmas.List.Folds.{find-append}
use Rattle.sdr_base.specs.Blocks.{Blocks, Reaches}
use Rattle.sdr_base.specs.Entries.{Few, BlocksAre}
use Rattle.sdr_base.specs.Hashes.{HashItem, bucket_entries, item_addr, item_block}
use Rattle.sdr_base.specs.Linked.{first_of}
use Rattle.sdr_base.specs.Words.{HasWord}
use Rattle.sdr_base.specs.declared.kind.Kind.TheVariants as kinds
use Rattle.sdr_base.proofs.ChainLemmas.{linked_found}
use Rattle.sdr_base.proofs.LinkedLemmas.{length-linked}
use Rattle.sdr_base.proofs.StandingLemmas.{at-nowhere, found}
use Rattle.sdr_base.proofs.WritingLemmas.{reaches, word_is}
use Rattle.sdr_hash.specs.Buckets.{item_has_key}
use Rattle.sdr_hash.specs.Kept.{ItemFits}
use Rattle.sdr_hash.specs.Opened.{KeepsBucket, SomeBucket, opened_entries, words_block}
use Rattle.sdr_hash.specs.Walks.{Compares, Searches, Walked, Walks, link_behind}
use Rattle.sdr_hash.specs.declared.bucket.Link.{Link}
use Rattle.sdr_hash.specs.declared.searching.Place.{Place}
use Rattle.sdr_hash.proofs.ItemLemmas.{KeepsItem, answered, item_reaches, next_is}

-- there is a first one
pub record HasFirst (left : List HashItem) : Type 0 where
  pub item : HashItem
  pub behind : List HashItem
  pub is : left ≡ item ∷ behind

has_first : (left : List HashItem) → first_of item_addr 0 left ≢ 0 → HasFirst left
has_first [] n = absurd (n refl)
has_first (item ∷ behind) n = record { item = item; behind = behind; is = refl }

empty_or : (left : List HashItem) → (left ≡ []) ⊎ HasFirst left
empty_or [] = inl refl
empty_or (item ∷ behind) = inr (record { item = item; behind = behind; is = refl })

nothing : (left : List HashItem) → length left ≡ 0 → left ≡ []
nothing [] n = refl
nothing (item ∷ left) n = absurd (omega (arith, n))

-- what holds of all holds of one between two parts, and of those behind it
pub middle : {n : ℕ} (xs : List HashItem) (x : HashItem) (ys : List HashItem) → All (ItemFits n) (xs ++ (x ∷ ys)) →
    All (ItemFits n) (x ∷ ys)
middle [] x ys f = f
middle {n} (z ∷ xs) x ys f = middle xs x ys (All-tail (ItemFits n) z (xs ++ (x ∷ ys)) f)

pub first_fits : {n : ℕ} (items : List HashItem) → All (ItemFits n) items → first_of item_addr 0 items < 2 ^ 64
first_fits [] f = omega arith
first_fits {n} (item ∷ items) f = (All-head (ItemFits n) item items f).addr

-- the link behind one more
pub link_behind-push : (front : Link) (items : List HashItem) (item : HashItem) →
    link_behind front (items ++ (item ∷ [])) ≡ record { addr = item.addr; field = 0 }
link_behind-push front [] item = refl
link_behind-push front (x ∷ items) item = link_behind-push (record { addr = x.addr; field = 0 }) items item

module _ {b : Blocks} {front : Link} {n : ℕ} {bucket : List HashItem} (k : KeepsBucket b front n bucket) where
  -- the hash's own block
  pub words_are : b front.addr ≡ Some (words_block k.words)
  words_are = found b front.addr (words_block k.words) [] (bucket_entries bucket ++ k.rest) k.stands

  pub front_reaches : (field : ℕ) → field < length k.words → Reaches (b front.addr) (8 * field + 8)
  front_reaches field less = reaches (b front.addr) kinds.Hash k.words [] (8 * field + 8) words_are (omega (arith, less))

  -- the number in the link to the first entry, and the count
  pub front_is : {value : ℕ} → HasWord (b front.addr) front.field value → value ≡ first_of item_addr 0 bucket
  front_is {value} h =
      let o = k.opened in
      let fits = first_fits bucket o.fits in
      word_is (b front.addr) kinds.Hash k.words [] front.field value words_are o.inside (rw o.front fits) h ∙ o.front

  pub count_is : {value : ℕ} → HasWord (b front.addr) 2 value → value ≡ get_or k.words 2 0
  count_is {value} h =
      let o = k.opened in
      let behind = o.behind in
      let inside = o.inside in
      let small = o.small in
      word_is (b front.addr) kinds.Hash k.words [] 2 value words_are (omega (arith, behind, inside)) (omega (arith, small)) h

  -- one between two parts is there
  pub here : (xs : List HashItem) (x : HashItem) (ys : List HashItem) → bucket ≡ xs ++ (x ∷ ys) →
      KeepsItem (b x.addr) n x (first_of item_addr 0 ys)
  here xs x ys e =
      let f = middle xs x ys (subst (All (ItemFits n)) e k.opened.fits) in
      record {
        block =
            linked_found item_addr item_block b ((front.addr, words_block k.words) ∷ []) k.rest 0 0 xs x ys
            (subst (λ (items : List HashItem). BlocksAre b (opened_entries front.addr k.words items ++ k.rest)) e k.stands);
        fits = All-head (ItemFits n) x ys f;
        small = first_fits ys (All-tail (ItemFits n) x ys f);
      }

-- no entry stands at 0
none_at_zero : {b : Blocks} {front : Link} {n next : ℕ} {bucket : List HashItem} {item : HashItem} (addr : ℕ) →
    KeepsBucket b front n bucket →
    KeepsItem (b addr) n item next → addr ≢ 0
none_at_zero {b} {front} {n} {next} {bucket} {item} addr k i z =
    let none : b 0 ≡ None =
    k.stands.same 0 ∙ at-nowhere 0 (opened_entries front.addr k.words bucket ++ k.rest) k.stands.null in
    let d : None ≡ Some (item_block 0 next item) = sym none ∙ ap b (sym z) ∙ i.block in cc

module _ {key : List ℕ} {front link : Link} {bucket : List HashItem} {cursor i : ℕ}
    (w : Walked key front bucket link cursor i) where
  more : cursor ≢ 0 → HasFirst w.left
  more n = has_first w.left (λ z. n (w.at_cursor ∙ z))

  cut : (e : HasFirst w.left) → bucket ≡ w.passed ++ (e.item ∷ e.behind)
  cut e = w.whole ∙ ap (λ (t : List HashItem). w.passed ++ t) e.is

  cursor_is : (e : HasFirst w.left) → cursor ≡ e.item.addr
  cursor_is e = w.at_cursor ∙ ap (first_of item_addr 0) e.is

  at_cursor : {b : Blocks} → KeepsBucket b front (length key) bucket → (e : HasFirst w.left) →
      KeepsItem (b cursor) (length key) e.item (first_of item_addr 0 e.behind)
  at_cursor {b} k e =
      subst (λ p. KeepsItem (b p) (length key) e.item (first_of item_addr 0 e.behind)) (sym (cursor_is e))
      (here k w.passed e.item e.behind (cut e))

  -- the first one that is left hasn't the key, and is passed
  onward : (next : ℕ) (after : Link) (e : HasFirst w.left) → item_has_key key e.item ≡ false → next ≡ first_of item_addr 0 e.behind →
      after ≡ record { addr = cursor; field = 0 } → Walked key front bucket after next (i + 1)
  onward next after e fails n a = record {
    passed = w.passed ++ (e.item ∷ []);
    left = e.behind;
    whole = cut e ∙ sym (append_assoc w.passed (e.item ∷ []) e.behind);
    counted = let l = length-append w.passed (e.item ∷ []) in let c = w.counted in omega (arith, l, c);
    none = find-append (item_has_key key) w.passed (e.item ∷ [])
        ∙ ap (λ (o : Option HashItem). option_or o (find (item_has_key key) (e.item ∷ []))) w.none
        ∙ ap (λ v. cond v (Some e.item) None) fails;
    at_cursor = n;
    at_link = a ∙ ap (λ p. record { addr = p; field = 0 }) (cursor_is e) ∙ sym (link_behind-push front w.passed e.item);
  }

  -- where the cursor is 0 none is left
  ended : {b : Blocks} → KeepsBucket b front (length key) bucket → cursor ≡ 0 → (w.left ≡ []) ⊎ HasFirst w.left → w.left ≡ []
  ended k z (inl e) = e
  ended k z (inr e) = absurd (none_at_zero cursor k (at_cursor k e) z)

  -- nor where as many were passed as the heap may have
  none_more : {b : Blocks} {size : ℕ} → KeepsBucket b front (length key) bucket → Few size b → size ≤ 64 * 262144 → i ≡ 1048576 →
      w.left ≡ []
  none_more {b} {size} k few small all =
      let n : 16 * length (opened_entries front.addr k.words bucket ++ k.rest) ≤ size = few.few _ k.stands in
      let a = length-append (opened_entries front.addr k.words bucket) k.rest in
      let l = length-linked item_addr item_block 0 0 bucket in
      let whole = ap (length {A = HashItem}) w.whole in
      let both = length-append w.passed w.left in
      let c = w.counted in
      nothing w.left (omega (arith, n, a, l, whole, both, c, small, all))

  not_found : w.left ≡ [] → find (item_has_key key) bucket ≡ None
  not_found none =
      ap (find (item_has_key key)) (w.whole ∙ ap (λ (t : List HashItem). w.passed ++ t) none ∙ append-nil w.passed)
      ∙ w.none

pub begun : {b : Blocks} {front : Link} {cursor : ℕ} (key : List ℕ) → HasWord (b front.addr) front.field cursor →
    Walks b front key front cursor 0
begun key h = record {
  walked = λ bucket k. record {
    passed = [];
    left = bucket;
    whole = refl;
    counted = refl;
    none = refl;
    at_cursor = front_is k h;
    at_link = refl;
  };
}

module _ {b : Blocks} {front link : Link} {key : List ℕ} {cursor i : ℕ} where
  -- the entry at the cursor is there
  pub reaches_here : SomeBucket b front (length key) → Walks b front key link cursor i → cursor ≢ 0 → (end : ℕ) →
      end ≤ 16 + length key →
      Reaches (b cursor) end
  reaches_here k s n end le =
      let w = s.walked k.bucket k.keeps in
      item_reaches (at_cursor w k.keeps (more w n)) end le

  -- it hasn't the key, and is passed
  pub passes : {next : ℕ} (after : Link) → Walks b front key link cursor i → cursor ≢ 0 → HasWord (b cursor) 0 next →
      Compares (b cursor) key false →
      after ≡ record { addr = cursor; field = 0 } → Walks b front key after next (i + 1)
  passes {next} after s n word c a = record {
    walked = λ bucket k.
        let w = s.walked bucket k in
        let e = more w n in
        let h = at_cursor w k e in
        onward w next after e (answered key c e.item _ h) (next_is h word) a;
  }

  -- it has the key
  pub found_here : (place : Place) → Walks b front key link cursor i → cursor ≢ 0 → Compares (b cursor) key true →
      place.addr ≡ cursor → place.link ≡ link → Searches b front key (Some place)
  found_here place s n c a l = record {
    searched = λ bucket k.
        let w = s.walked bucket k in
        let e = more w n in
        record {
          before = w.passed;
          item = e.item;
          behind = e.behind;
          whole = cut w e;
          none = w.none;
          keyed = answered key c e.item _ (at_cursor w k e);
          at_addr = a ∙ cursor_is w e;
          at_link = l ∙ w.at_link;
        };
  }

  -- none has it
  pub found_none : Walks b front key link cursor i → cursor ≡ 0 → Searches b front key None
  found_none s z = record {
    searched = λ bucket k. let w = s.walked bucket k in not_found w (ended w k z (empty_or w.left));
  }

  pub found_no_more : {size : ℕ} → Walks b front key link cursor i → Few size b → size ≤ 64 * 262144 → i ≡ 1048576 →
      Searches b front key None
  found_no_more s few small all = record {
    searched = λ bucket k. let w = s.walked bucket k in not_found w (none_more w k few small all);
  }
