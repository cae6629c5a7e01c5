-- An entry is taken out of a bucket.
use Rattle.std.proofs.Common.{◌≡◌, ℕ, ◌+◌, ◌-◌, ◌*◌, ◌≤◌, ◌<◌, ◌^◌, List, [], ◌∷◌, ◌++◌, length, set, get_or, None, sym, ap, ◌∙◌, arith, subst, append_assoc, length-append}
use Rattle.std.proofs.lemmas.List.{length-set}
use Rattle.sdr_base.specs.Blocks.{Blocks, Reaches, with_block}
use Rattle.sdr_base.specs.Entries.{Entries, BlocksAre}
use Rattle.sdr_base.specs.Hashes.{HashItem, bucket_entries, item_addr, item_block}
use Rattle.sdr_base.specs.Linked.{first_of, last_of, linked}
use Rattle.sdr_base.specs.Making.{besides}
use Rattle.sdr_base.specs.Objects.{Heap, with_given}
use Rattle.sdr_base.specs.Words.{HasWord, with_word}
use Rattle.sdr_base.specs.declared.kind.Kind.TheVariants as kinds
use Rattle.sdr_base.proofs.ChainLemmas.{linked-around}
use Rattle.sdr_base.proofs.HeapLemmas.{given_blocks, heap_blocks}
use Rattle.sdr_base.proofs.LinkedLemmas.{first-append, taken_out}
use Rattle.sdr_base.proofs.StandingLemmas.{found}
use Rattle.sdr_base.proofs.WritingLemmas.{reaches, word_set}
use Rattle.sdr_hash.specs.Buckets.{removed}
use Rattle.sdr_hash.specs.Changes.{SomePlace, TakesOut}
use Rattle.sdr_hash.specs.Opened.{IsOpened, KeepsBucket, opened_entries, with_front, words_block}
use Rattle.sdr_hash.specs.Walks.{IsFirst}
use Rattle.sdr_hash.specs.declared.bucket.Link.{Link}
use Rattle.sdr_hash.specs.declared.searching.Place.{Place}
use Rattle.sdr_hash.proofs.AddLemmas.{kept}
use Rattle.sdr_hash.proofs.BucketLemmas.{removed_at}
use Rattle.sdr_hash.proofs.ItemLemmas.{item_reaches, next_is}
use Rattle.sdr_hash.proofs.LinkLemmas.{any_previous, link_reaches, part_entries, relinked, small_behind}
use Rattle.sdr_hash.proofs.WalkLemmas.{count_is, here}

-- what is left of a bucket
pub removed_is : {key : List ℕ} {front : Link} {bucket : List HashItem} {place : Place} → (f : IsFirst key front bucket place) →
    removed key bucket ≡ f.before ++ f.behind
removed_is {key} f = ap (removed key) f.whole ∙ removed_at key f.before f.item f.behind f.none f.keyed

pub length-removed : {key : List ℕ} {front : Link} {bucket : List HashItem} {place : Place} → IsFirst key front bucket place →
    length (removed key bucket) + 1 ≡ length bucket
length-removed {bucket = bucket} f =
    let r = ap length (removed_is f) in
    let a = length-append f.before f.behind in
    let w = ap length f.whole in
    let b = length-append f.before (f.item ∷ f.behind) in omega (arith, r, a, w, b)

-- what stands behind those before it
abbrev pub from_it : List HashItem → HashItem → List HashItem → Entries → Entries
from_it xs x ys rest =
    (x.addr, item_block 0 (first_of item_addr 0 ys) x) ∷ (linked item_addr item_block (last_of item_addr 0 xs) 0 ys ++ rest)

-- a bucket at one of its entries
around : (xs : List HashItem) (x : HashItem) (ys : List HashItem) (rest : Entries) →
    bucket_entries (xs ++ (x ∷ ys)) ++ rest ≡ linked item_addr item_block 0 x.addr xs ++ from_it xs x ys rest
around xs x ys rest =
    ap (λ (es : Entries). es ++ rest) (linked-around item_addr item_block 0 0 xs x ys)
    ∙ append_assoc (linked item_addr item_block 0 x.addr xs)
    ((x.addr, item_block 0 (first_of item_addr 0 ys) x) ∷ linked item_addr item_block x.addr 0 ys) rest
    ∙ ap (λ (es : Entries). linked item_addr item_block 0 x.addr xs ++
    ((x.addr, item_block 0 (first_of item_addr 0 ys) x) ∷ (es ++ rest)))
    (any_previous x.addr (last_of item_addr 0 xs) 0 ys)

-- the bucket is cut at it, and joined
pub cut : {b : Blocks} (hash : ℕ) (words : List ℕ) (xs : List HashItem) (x : HashItem) (ys : List HashItem) (rest : Entries) →
    BlocksAre b (opened_entries hash words (xs ++ (x ∷ ys)) ++ rest) → BlocksAre b
    (part_entries hash words x.addr xs (from_it xs x ys rest))
cut {b} hash words xs x ys rest s = subst (λ (es : Entries). BlocksAre b ((hash, words_block words) ∷ es)) (around xs x ys rest) s

pub joined : {b : Blocks} (hash : ℕ) (words : List ℕ) (xs : List HashItem) (x : HashItem) (ys : List HashItem) (rest : Entries) →
    BlocksAre b (part_entries hash words x.addr xs (from_it xs x ys rest)) → BlocksAre b
    (opened_entries hash words (xs ++ (x ∷ ys)) ++ rest)
joined {b} hash words xs x ys rest s =
    subst (λ (es : Entries). BlocksAre b ((hash, words_block words) ∷ es)) (sym (around xs x ys rest)) s

-- the whole call, read
module _ (front : Link) (place : Place) (next count : ℕ) (old : Heap) (h : HasWord (old.blocks place.addr) 0 next)
    (c : HasWord (old.blocks front.addr) 2 count) where
  cut_at : {key : List ℕ} (words : List ℕ) {bucket : List HashItem} → (f : IsFirst key front bucket place) → (rest : Entries) →
      BlocksAre old.blocks (opened_entries front.addr words bucket ++ rest) →
      BlocksAre old.blocks (part_entries front.addr words f.item.addr f.before (from_it f.before f.item f.behind rest))
  cut_at words f rest s =
      cut front.addr words f.before f.item f.behind rest
      (subst (λ (items : List HashItem). BlocksAre old.blocks (opened_entries front.addr words items ++ rest)) f.whole
      s)

  first_at : {key words : List ℕ} {bucket : List HashItem} → IsOpened (length key) front.field words bucket →
      (f : IsFirst key front bucket place) →
      get_or words front.field 0 ≡ first_of item_addr f.item.addr f.before
  first_at o f =
      o.front ∙ ap (first_of item_addr 0) f.whole ∙ first-append item_addr item_block 0 f.before (f.item ∷ f.behind)

  -- the link to it is within its block
  pub link_there : SomePlace old.blocks front place → Reaches (old.blocks place.link.addr) (8 * place.link.field + 8)
  link_there k =
      let f = k.is in
      link_reaches front k.keeps.words f.item.addr f.before (from_it f.before f.item f.behind k.keeps.rest) k.keeps.opened.inside
      (cut_at k.keeps.words f k.keeps.rest k.keeps.stands) place.link f.at_link

  module _ {linked_to : Heap} (l : linked_to ≡ with_word old place.link.addr place.link.field next) where
    linked_past : {key words : List ℕ} {bucket : List HashItem} → IsOpened (length key) front.field words bucket →
        (f : IsFirst key front bucket place) → (rest : Entries) → BlocksAre old.blocks
        (opened_entries front.addr words bucket ++ rest) →
        BlocksAre linked_to.blocks (part_entries front.addr (set words front.field (first_of item_addr 0 (removed key bucket)))
        (first_of item_addr 0 f.behind) f.before (from_it f.before f.item f.behind rest))
    linked_past {key} {words} {bucket} o f rest s =
        let e = here (kept front rest o s) f.before f.item f.behind f.whole in
        let n : next ≡ first_of item_addr 0 f.behind = next_is e (subst (λ p. HasWord (old.blocks p) 0 next) f.at_addr h) in
        let first : first_of item_addr next f.before ≡ first_of item_addr 0 (removed key bucket) =
        ap (λ m. first_of item_addr m f.before) n
        ∙ sym (ap (first_of item_addr 0) (removed_is f) ∙ first-append item_addr item_block 0 f.before f.behind) in
        subst (λ m. BlocksAre linked_to.blocks
        (part_entries front.addr (set words front.field (first_of item_addr 0 (removed key bucket))) m f.before
        (from_it f.before f.item f.behind rest))) n
        (subst (λ m. BlocksAre linked_to.blocks
        (part_entries front.addr (set words front.field m) next f.before (from_it f.before f.item f.behind rest))) first
        (relinked front words f.item.addr next f.before (from_it f.before f.item f.behind rest) o.inside
        (first_at o f) (cut_at words f rest s) place.link f.at_link
        (heap_blocks l)))

    module _ (less : ℕ) {counted : Heap} (e : less ≡ count - 1) (w : counted ≡ with_word linked_to front.addr 2 less) where
      counted_stands : {key words : List ℕ} {bucket : List HashItem} → IsOpened (length key) front.field words bucket →
          (f : IsFirst key front bucket place) → (rest : Entries) → BlocksAre old.blocks
          (opened_entries front.addr words bucket ++ rest) →
          BlocksAre counted.blocks
          (part_entries front.addr (with_front words front.field (removed key bucket) (get_or words 2 0 - 1))
          (first_of item_addr 0 f.behind) f.before (from_it f.before f.item f.behind rest))
      counted_stands {key} {words} {bucket} o f rest s =
          let front_word = first_of item_addr 0 (removed key bucket) in
          let long = length-set words front.field front_word in
          let behind = o.behind in
          let inside = o.inside in
          let n = e ∙ ap (λ m. m - 1) (count_is (kept front rest o s) c) in
          let more = linked item_addr item_block 0
          (first_of item_addr 0 f.behind) f.before ++ from_it f.before f.item f.behind rest in
          subst (λ m. BlocksAre counted.blocks ((front.addr, words_block (set (set words front.field front_word) 2 m)) ∷ more)) n
          (word_set linked_to.blocks counted.blocks front.addr kinds.Hash (set words front.field front_word) [] 2 less [] more
          (heap_blocks w) (omega (arith, long, behind, inside)) (linked_past o f rest s))

      pub takes_out : (new : Heap) → new ≡ with_given counted place.addr → TakesOut front place old new
      takes_out new g = record {
        changes = λ key words bucket o f. record {
          kept = λ rest s.
              let after = with_front words front.field (removed key bucket) (get_or words 2 0 - 1) in
              let gone : new.blocks ≡ with_block counted.blocks f.item.addr None =
              given_blocks place.addr counted new g ∙ ap (λ p. with_block counted.blocks p None) f.at_addr in
              subst (λ (items : List HashItem). BlocksAre new.blocks
              ((front.addr, words_block after) ∷ (bucket_entries items ++ rest))) (sym (removed_is f))
              (taken_out item_addr item_block counted.blocks new.blocks ((front.addr, words_block after) ∷ []) rest 0 0 f.before
              (item_block 0 (first_of item_addr 0 f.behind) f.item) f.item.addr f.behind gone (counted_stands o f rest s));
        };
        made = record {
          all =
              ap besides g ∙ ap (λ (x : Heap). besides (with_given x place.addr)) w
              ∙ ap (λ (x : Heap). besides (with_given x place.addr)) l;
        };
      }

-- there is an entry to take out, so the count isn't 0
pub count_some : {b : Blocks} {front : Link} {place : Place} (count : ℕ) → SomePlace b front place →
    HasWord (b front.addr) 2 count → 1 ≤ count
count_some count k h =
    let f = k.is in
    let e = count_is k.keeps h in
    let n = k.keeps.opened.counted in
    let w = ap length f.whole in
    let a = length-append f.before (f.item ∷ f.behind) in omega (arith, e, n, w, a)

-- the link's field is small
pub link_small : {b : Blocks} {front : Link} {place : Place} → SomePlace b front place → place.link.field < 2 ^ 32
link_small {front = front} {place = place} k =
    let inside = k.keeps.opened.inside in
    let few = k.keeps.opened.few in
    subst (λ (l : Link). l.field < 2 ^ 32) (sym k.is.at_link) (small_behind front k.is.before (omega (arith, inside, few)))

-- the entry at the place is there
pub place_reaches : {b : Blocks} {front : Link} {place : Place} → SomePlace b front place → Reaches (b place.addr) 16
place_reaches {b} k =
    let f = k.is in
    subst (λ p. Reaches (b p) 16) (sym f.at_addr) (item_reaches (here k.keeps f.before f.item f.behind f.whole) 16 (omega arith))

-- and the hash's own block
pub hash_there : {b : Blocks} {front : Link} {n : ℕ} {bucket : List HashItem} → KeepsBucket b front n bucket →
    Reaches (b front.addr) 24
hash_there {b} {front} {bucket = bucket} k =
    let behind = k.opened.behind in
    let inside = k.opened.inside in
    reaches (b front.addr) kinds.Hash k.words [] 24
    (found b front.addr (words_block k.words) [] (bucket_entries bucket ++ k.rest) k.stands) (omega (arith, behind, inside))
