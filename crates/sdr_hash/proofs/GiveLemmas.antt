-- The entries of a bucket are given back.
use Rattle.std.proofs.Common.{◌≡◌, ◌≢◌, inl, inr, ℕ, ◌+◌, ◌*◌, ◌≤◌, ◌<◌, List, [], ◌∷◌, length, refl, sym, ap, ◌∙◌, arith, subst, length-append}
use Rattle.std.proofs.lemmas.List.Elements.{All-head, All-tail}
use Rattle.std.specs.Prelude.{All, None, Some, ◌⊎◌}
use Rattle.sdr_base.specs.Blocks.{Blocks, Reaches}
use Rattle.sdr_base.specs.Entries.{Entries, BlocksAre}
use Rattle.sdr_base.specs.Hashes.{HashItem, bucket_entries, item_addr, item_block}
use Rattle.sdr_base.specs.Linked.{first_of}
use Rattle.sdr_base.specs.Objects.{Heap, OnlyUnmoved, with_given}
use Rattle.sdr_base.specs.Words.{HasWord}
use Rattle.sdr_base.specs.declared.refusal.Refusal.TheVariants.{LogFull}
use Rattle.sdr_base.specs.declared.stop.Stop.{Stop}
use Rattle.sdr_base.specs.declared.stop.Stop.TheVariants.{Refused, DiskFault, MediaFault, Failed}
use Rattle.sdr_base.proofs.StandingLemmas.{at-nowhere, moved}
use Rattle.sdr_hash.specs.Giving.{GivesItems, GivesBucket, GiveStops, OpenedAt, SomeOpened}
use Rattle.sdr_hash.specs.Kept.{ItemFits}
use Rattle.sdr_hash.specs.Opened.{KeepsBucket, words_block}
use Rattle.sdr_hash.specs.declared.bucket.Link.{Link}
use Rattle.sdr_hash.proofs.ItemLemmas.{KeepsItem, item_reaches, next_is}
use Rattle.sdr_hash.proofs.WalkLemmas.{first_fits, front_is, front_reaches}
use Rattle.sdr_list.proofs.GivingLemmas.{NotDone, part_begun, part_found, part_given, part_made, part_more, part_some, part_spare, part_stands}

-- no block stands at 0
at_zero : {b : Blocks} {es : Entries} → BlocksAre b es → b 0 ≡ None
at_zero {es = es} s = s.same 0 ∙ at-nowhere 0 es s.null

-- a bucket that is opened is kept
abbrev opened_kept : {b : Blocks} {front : Link} {most n : ℕ} {words : List ℕ} {bucket : List HashItem} {rest : Entries} →
    OpenedAt b front most n words bucket rest → KeepsBucket b front n bucket
opened_kept {words = words} {rest = rest} o = record { words = words; rest = rest; stands = o.stands; opened = o.opened }

pub opened_reaches : {b : Blocks} {front : Link} {most : ℕ} → SomeOpened b front most →
    Reaches (b front.addr) (8 * front.field + 8)
opened_reaches {front = front} s = let o = s.is in front_reaches (opened_kept o) front.field o.opened.inside

pub start : (old : Heap) (front : Link) (most first : ℕ) → HasWord (old.blocks front.addr) front.field first →
    GivesItems old old front most first 0
start old front most first h = record {
  gives = λ n words bucket rest o.
      part_begun (ItemFits n) item_addr item_block 0 0 bucket ((front.addr, words_block words) ∷ rest)
      (moved ((front.addr, words_block words) ∷ []) (bucket_entries bucket) rest o.stands)
      (front_is (opened_kept o) h) o.opened.fits;
}

module _ {old now : Heap} {front : Link} {most cursor i : ℕ} (s : GivesItems old now front most cursor i) where
  -- where the cursor isn't 0 there is one more
  more_left : {n : ℕ} {words : List ℕ} {bucket : List HashItem} {rest : Entries} →
      (o : OpenedAt old.blocks front most n words bucket rest) →
      cursor ≢ 0 → i < length bucket
  more_left {n} {words} {bucket} {rest} o nz =
      let p = s.gives n words bucket rest o in
      let l = length-append p.gone p.left in
      let w = ap (length {A = HashItem}) p.whole in
      let q = p.passed in
      let some = some_left p.left (λ z. nz (p.at_cursor ∙ z)) in omega (arith, l, w, q, some)
    where
      some_left : (left : List HashItem) → first_of item_addr 0 left ≢ 0 → 0 < length left
      some_left [] n = absurd (n refl)
      some_left (x ∷ left) n = omega arith

  -- the next one is there
  next_item : {n : ℕ} {words : List ℕ} {bucket : List HashItem} {rest : Entries} →
      (o : OpenedAt old.blocks front most n words bucket rest) →
      (nd : NotDone (s.gives n words bucket rest o).left) → KeepsItem (now.blocks cursor) n nd.head (first_of item_addr 0 nd.tail)
  next_item {n} {words} {bucket} {rest} o nd =
      let p = s.gives n words bucket rest o in
      let f = subst (All (ItemFits n)) nd.is p.holds in
      record {
        block = part_found (ItemFits n) item_addr item_block 0 p nd;
        fits = All-head (ItemFits n) nd.head nd.tail f;
        small = first_fits nd.tail (All-tail (ItemFits n) nd.head nd.tail f);
      }

  pub cursor_reaches : SomeOpened old.blocks front most → cursor ≢ 0 → Reaches (now.blocks cursor) 16
  cursor_reaches k nz =
      let nd = part_more (ItemFits k.key_length) item_addr item_block 0
      (s.gives k.key_length k.words k.bucket k.rest k.is) (more_left k.is nz) in
      item_reaches (next_item k.is nd) 16 (omega arith)

  -- it is given back
  pub onward : {new : Heap} {next : ℕ} → cursor ≢ 0 → HasWord (now.blocks cursor) 0 next →
      new ≡ with_given now cursor → GivesItems old new front most next (i + 1)
  onward {new} {next} nz h g = record {
    gives = λ n words bucket rest o.
        let p = s.gives n words bucket rest o in
        let nd = part_more (ItemFits n) item_addr item_block 0 p (more_left o nz) in
        part_given (ItemFits n) item_addr item_block 0 p new next nd (next_is (next_item o nd) h) g;
  }

  -- there is room for one more move
  pub spare_left : SomeOpened old.blocks front most → i < most → most ≤ old.spare → 1 ≤ now.spare
  spare_left k more enough =
      let e = part_spare (ItemFits k.key_length) item_addr item_block 0 (s.gives k.key_length k.words k.bucket k.rest k.is) in
      omega (arith, e, more, enough)

  -- a stop after some were given back
  pub stopped : (new : Heap) (stop : Stop) → OnlyUnmoved now new stop → GiveStops front most old new stop
  stopped new (Refused (LogFull lines room)) u = record {
    gives = λ n words bucket rest o.
        part_some (ItemFits n) item_addr item_block 0 (s.gives n words bucket rest o) new u.moves u.spare;
  }
  stopped new (Refused refusal) u = absurd u
  stopped new DiskFault u = tt
  stopped new MediaFault u = absurd u
  stopped new Failed u = tt

  -- none is left where the cursor is 0, or where as many were given back as there are at most
  all_gone : {n : ℕ} {words : List ℕ} {bucket : List HashItem} {rest : Entries} →
      (o : OpenedAt old.blocks front most n words bucket rest) →
      (cursor ≡ 0) ⊎ (i ≡ most) → i ≡ length bucket
  all_gone {n} {words} {bucket} {rest} o (inl z) =
      let p = s.gives n words bucket rest o in
      let l = length-append p.gone p.left in
      let w = ap (length {A = HashItem}) p.whole in
      let q = p.passed in
      let none = none_left n words bucket rest o p.left refl z in omega (arith, l, w, q, none)
    where
      none_left : (n : ℕ) (words : List ℕ) (bucket : List HashItem) (rest : Entries) →
          (o : OpenedAt old.blocks front most n words bucket rest) →
          (left : List HashItem) → (s.gives n words bucket rest o).left ≡ left → cursor ≡ 0 → length left ≡ 0
      none_left n words bucket rest o [] e z = refl
      none_left n words bucket rest o (x ∷ left) e z =
          let nd : NotDone (s.gives n words bucket rest o).left = record { head = x; tail = left; is = e } in
          let p = s.gives n words bucket rest o in
          let k = next_item o nd in
          let d : None ≡ Some (item_block 0 (first_of item_addr 0 left) x) =
          sym (at_zero p.stands) ∙ ap now.blocks (sym z) ∙ k.block in cc
  all_gone {n} {words} {bucket} {rest} o (inr e) =
      let p = s.gives n words bucket rest o in
      let l = length-append p.gone p.left in
      let w = ap (length {A = HashItem}) p.whole in
      let q = p.passed in
      let few = o.few in omega (arith, l, w, q, few, e)

  pub ended : (left : ℕ) → (cursor ≡ 0) ⊎ (i ≡ most) → i + left ≡ most → GivesBucket old now front most left
  ended left done e = record {
    gives = λ n words bucket rest o.
        let p = s.gives n words bucket rest o in
        let all = all_gone o done in
        record {
          stands = part_stands (ItemFits n) item_addr item_block 0 p all;
          counted = omega (arith, all, e);
          made = part_made (ItemFits n) item_addr item_block 0 p all;
        };
  }
