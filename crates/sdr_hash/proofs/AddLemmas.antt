-- A new entry comes in front of a bucket.
use Rattle.std.proofs.Common.{◌≡◌, ℕ, ◌+◌, ◌<◌, ◌^◌, List, [], ◌∷◌, ◌++◌, length, set, Some, sym, ap, ◌∙◌, arith, subst}
use Rattle.std.proofs.lemmas.List.{length-set}
use Rattle.sdr_base.specs.Blocks.{Blocks, with_block}
use Rattle.sdr_base.specs.Entries.{Entries, BlocksAre}
use Rattle.sdr_base.specs.Hashes.{HashItem, bucket_entries, item_addr, item_block}
use Rattle.sdr_base.specs.Linked.{first_of, linked}
use Rattle.sdr_base.specs.Making.{Made, besides}
use Rattle.sdr_base.specs.Objects.{Heap}
use Rattle.sdr_base.specs.Words.{HasWord, TakesBytes, layout, with_word}
use Rattle.sdr_base.specs.declared.kind.Kind.TheVariants as kinds
use Rattle.sdr_base.specs.declared.moves.Move.TheVariants.{Took}
use Rattle.sdr_base.proofs.HeapLemmas.{heap_blocks}
use Rattle.sdr_base.proofs.LayoutLemmas.{length-layout}
use Rattle.sdr_base.proofs.StandingLemmas.{came}
use Rattle.sdr_base.proofs.WritingLemmas.{word_set}
use Rattle.sdr_hash.specs.Calls.{new_item}
use Rattle.sdr_hash.specs.Changes.{AddsFirst}
use Rattle.sdr_hash.specs.Opened.{IsOpened, KeepsBucket, SomeBucket, opened_entries, words_block}
use Rattle.sdr_hash.specs.declared.bucket.Link.{Link}
use Rattle.sdr_hash.proofs.LinkLemmas.{any_previous}
use Rattle.sdr_hash.proofs.WalkLemmas.{count_is, front_is}

-- the blocks that were read
abbrev pub kept : {b : Blocks} (front : Link) {n : ℕ} {words : List ℕ} {bucket : List HashItem} (rest : Entries) →
    IsOpened n front.field words bucket →
    BlocksAre b (opened_entries front.addr words bucket ++ rest) → KeepsBucket b front n bucket
kept front {words = words} rest o s = record { words = words; rest = rest; stands = s; opened = o }

-- the move of a new entry
pub took_entry : (next value : ℕ) {addr : ℕ} (key : List ℕ) {old mid : Heap} →
    TakesBytes kinds.HashEntry (layout (next ∷ value ∷ []) key) addr old mid →
    Made (Took (16 + length key) addr ∷ []) old mid
took_entry next value {addr} key {old} {mid} t =
    subst (λ n. Made (Took n addr ∷ []) old mid) (length-layout (next ∷ value ∷ []) key) (record { all = ap besides t.taken })

module _ (front : Link) (next value addr count : ℕ) (key : List ℕ) {old mid : Heap}
    (f : HasWord (old.blocks front.addr) front.field next)
    (c : HasWord (old.blocks front.addr) 2 count)
    (t : TakesBytes kinds.HashEntry (layout (next ∷ value ∷ []) key) addr old mid) where
  -- the block that was taken stands before the bucket
  taken_stands : (words : List ℕ) (bucket : List HashItem) (rest : Entries) → IsOpened (length key) front.field words bucket →
      BlocksAre old.blocks (opened_entries front.addr words bucket ++ rest) →
      BlocksAre mid.blocks ((front.addr, words_block words) ∷
      (bucket_entries (new_item addr key value ∷ bucket) ++ rest))
  unfolding linked
  taken_stands words bucket rest o s =
      let x = new_item addr key value in
      let taken = with_block old.blocks addr (Some (item_block 0 next x)) in
      let n : next ≡ first_of item_addr 0 bucket = front_is (kept front rest o s) f in
      subst (λ (b : Blocks). BlocksAre b ((front.addr, words_block words) ∷ (bucket_entries (x ∷ bucket) ++ rest)))
      (sym (heap_blocks t.taken))
      (subst (λ m. BlocksAre taken
      ((front.addr, words_block words) ∷ ((addr, item_block 0 m x) ∷ (linked item_addr item_block addr 0 bucket ++ rest)))) n
      (subst (λ (es : Entries). BlocksAre taken
      ((front.addr, words_block words) ∷ ((addr, item_block 0 next x) ∷ (es ++ rest)))) (any_previous 0 addr 0 bucket)
      (came old.blocks addr (item_block 0 next x) ((front.addr, words_block words) ∷ [])
      (bucket_entries bucket ++ rest) t.nonzero t.fresh s)))

  module _ {linked_to : Heap} (l : linked_to ≡ with_word mid front.addr front.field addr) where
    linked_stands : (words : List ℕ) (bucket : List HashItem) (rest : Entries) → IsOpened (length key) front.field words bucket →
        BlocksAre old.blocks (opened_entries front.addr words bucket ++ rest) →
        BlocksAre linked_to.blocks
        ((front.addr, words_block (set words front.field addr)) ∷ (bucket_entries (new_item addr key value ∷ bucket) ++ rest))
    linked_stands words bucket rest o s =
        word_set mid.blocks linked_to.blocks front.addr kinds.Hash words [] front.field addr []
        (bucket_entries (new_item addr key value ∷ bucket) ++ rest)
        (heap_blocks l) o.inside (taken_stands words bucket rest o s)

    -- the whole call
    pub adds_first : (more : ℕ) (new : Heap) → more ≡ count + 1 → new ≡ with_word linked_to front.addr 2 more →
        AddsFirst front key value old new
    unfolding linked
    adds_first more new e w = record {
      addr = addr;
      adds = λ words bucket o. record {
        nonzero = t.nonzero;
        small = t.small;
        fresh = t.fresh;
        changes = record {
          kept = λ rest s.
              let long = length-set words front.field addr in
              let behind = o.behind in
              let inside = o.inside in
              let n = e ∙ ap (λ m. m + 1) (count_is (kept front rest o s) c) in
              subst (λ m. BlocksAre new.blocks
              ((front.addr, words_block (set (set words front.field addr) 2 m)) ∷
              (bucket_entries (new_item addr key value ∷ bucket) ++ rest))) n
              (word_set linked_to.blocks new.blocks front.addr kinds.Hash (set words front.field addr) [] 2 more []
              (bucket_entries (new_item addr key value ∷ bucket) ++ rest)
              (heap_blocks w) (omega (arith, long, behind, inside)) (linked_stands words bucket rest o s));
        };
      };
      made = record { all = ap besides w ∙ ap besides l ∙ (took_entry next value key t).all };
    }

-- the count has room for one more
pub count_fits : {b : Blocks} {front : Link} {n : ℕ} (count : ℕ) → SomeBucket b front n →
    HasWord (b front.addr) 2 count → count < 2 ^ 32
count_fits count k h = let s = k.keeps.opened.small in let e = count_is k.keeps h in omega (arith, s, e)
