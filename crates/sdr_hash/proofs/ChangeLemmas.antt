-- What a change of one bucket is for its hash.
use Rattle.std.proofs.Common.{◌≡◌, ℕ, ◌+◌, ◌-◌, ◌*◌, ◌≤◌, ◌<◌, List, [], ◌∷◌, ◌++◌, length, map, set, get_or, Some, sym, ap, ◌∙◌, arith, subst, length-append}
use Rattle.std.specs.Prelude.{sum_by}
use Rattle.std.proofs.Math.Seq.{map-set_same}
use Rattle.std.proofs.lemmas.List.{length-set}
use Rattle.sdr_base.specs.Entries.{Changes, Few, BlocksAre}
use Rattle.sdr_base.specs.Hashes.{HashItem, HashRow, hash_entries, item_addr, item_block}
use Rattle.sdr_base.specs.Linked.{first_of, last_of, linked}
use Rattle.sdr_base.specs.Making.{besides}
use Rattle.sdr_base.specs.Objects.{Heap, OnlyShort, OnlyUnmoved}
use Rattle.sdr_base.specs.Words.{with_word}
use Rattle.sdr_base.specs.declared.kind.Kind.TheVariants as kinds
use Rattle.sdr_base.specs.declared.refusal.Refusal.TheVariants.{LogFull, NoBlock}
use Rattle.sdr_base.specs.declared.stop.Stop.{Stop}
use Rattle.sdr_base.specs.declared.stop.Stop.TheVariants.{Refused, DiskFault, MediaFault, Failed}
use Rattle.sdr_base.proofs.HeapLemmas.{heap_blocks}
use Rattle.sdr_base.proofs.LinkedLemmas.{first-append}
use Rattle.sdr_base.proofs.WritingLemmas.{word_set}
use Rattle.sdr_hash.specs.Buckets.{bucket_of, items_by, removed, revised, with_items}
use Rattle.sdr_hash.specs.Calls.{ChangeStops, HasKey, InsertsKey, InsertStops, LacksKey, RemovesKey, RevisesKey, new_item}
use Rattle.sdr_hash.specs.Changes.{AddsFirst, TakesOut}
use Rattle.sdr_hash.specs.Kept.{KeepsHash}
use Rattle.sdr_hash.specs.Opened.{FrontsBucket, opened_entries, with_front, words_block}
use Rattle.sdr_hash.specs.Walks.{IsFirst, Searches}
use Rattle.sdr_hash.specs.declared.bucket.Link.{Link}
use Rattle.sdr_hash.specs.declared.searching.Place.{Place}
use Rattle.sdr_hash.proofs.BucketLemmas.{revised_at}
use Rattle.sdr_hash.proofs.FindLemmas.{bucket_below, bucket_for, has, opened_for}
use Rattle.sdr_hash.proofs.KeptLemmas.{hash_words}
use Rattle.sdr_hash.proofs.OpenedLemmas.{closed, count_with, with_bucket, words_with}
use Rattle.sdr_hash.proofs.OutLemmas.{cut, joined, length-removed}

-- the words of the hash stay, where a bucket keeps its first entry and has as many
words_same : (row : HashRow) (p : ℕ) (items : List HashItem) → p < length row.buckets →
    length items ≡ length (get_or row.buckets p []) →
    first_of item_addr 0 items ≡ first_of item_addr 0 (get_or row.buckets p []) → hash_words row ≡ hash_words
    (with_bucket row p items)
words_same row p items less long first =
    let c = count_with row p items less in
    let n : sum_by length row.buckets ≡ sum_by length (set row.buckets p items) = omega (arith, c, long) in
    ap (λ m. row.key_length ∷ m ∷ sum_by length row.buckets ∷ map (first_of item_addr 0) row.buckets)
    (sym (length-set row.buckets p items))
    ∙ ap (λ m. row.key_length ∷ length (set row.buckets p items) ∷ m ∷ map (first_of item_addr 0) row.buckets) n
    ∙ ap (λ (l : List ℕ). row.key_length ∷ length (set row.buckets p items) ∷ sum_by length (set row.buckets p items) ∷ l)
    (sym (map-set_same (first_of item_addr 0) row.buckets p items [] first))

module _ (old new : Heap) {hash size : ℕ} {key : List ℕ} {front : Link} (f : FrontsBucket old.blocks hash key front)
    (few : Few size old.blocks)
    (small : size ≤ 64 * 262144) where
  -- another bucket, with so many entries in all
  closed_for : (row : HashRow) → KeepsHash old.blocks hash row → (items : List HashItem) (count : ℕ) →
      count + length (items_by row key) ≡ sum_by length row.buckets + length items →
      Changes old.blocks new.blocks (opened_entries front.addr (hash_words row) (items_by row key))
      (opened_entries front.addr (with_front (hash_words row) front.field items count) items) →
      Changes old.blocks new.blocks (hash_entries hash row) (hash_entries hash (with_items row key items))
  closed_for row k items count n c =
      let p = bucket_of (length row.buckets) key in
      let less = bucket_below key k in
      let all = count_with row p items less in
      let words = with_front (hash_words row) (3 + p) items count in
      closed hash row p words items less (words_with row p items count (omega (arith, all, n)))
      (subst (λ field. Changes old.blocks new.blocks (opened_entries hash (hash_words row) (items_by row key))
      (opened_entries hash (with_front (hash_words row) field items count) items)) (f.field row k)
      (subst (λ at. Changes old.blocks new.blocks (opened_entries at (hash_words row) (items_by row key))
      (opened_entries at (with_front (hash_words row) front.field items count) items)) f.addr c))

  -- a key came
  pub inserts : (value : ℕ) → LacksKey old.blocks hash key → AddsFirst front key value old new → InsertsKey hash key value old new
  inserts value l a = record {
    lacks = l;
    addr = a.addr;
    adds = λ row k.
        let x = new_item a.addr key value in
        let one = a.adds (hash_words row) (items_by row key) (opened_for f few small row k) in
        record {
          nonzero = one.nonzero;
          small = one.small;
          fresh = one.fresh;
          changes = closed_for row k (x ∷ items_by row key) (sum_by length row.buckets + 1) (omega arith) one.changes;
        };
    made = a.made;
  }

  -- a key went
  pub removes : {place : Place} → Searches old.blocks front key (Some place) → TakesOut front place old new →
      RemovesKey hash key old new
  unfolding has
  removes {place} s t = record {
    has = has f few small s;
    changes = λ row k.
        let items = items_by row key in
        let i = s.searched items (bucket_for f few small row k) in
        let o = opened_for f few small row k in
        let n = length-removed i in
        let counted : length items ≤ sum_by length row.buckets = o.counted in
        closed_for row k (removed key items) (sum_by length row.buckets - 1) (omega (arith, n, counted))
        (t.changes key (hash_words row) items o i);
    made = t.made;
  }

  -- a value is another
  revised_stands : {place : Place} (value : ℕ) → new ≡ with_word old place.addr 1 value → (row : HashRow) →
      IsFirst key front (items_by row key) place →
      Changes old.blocks new.blocks (opened_entries hash (hash_words row) (items_by row key))
      (opened_entries hash (hash_words row) (revised key value (items_by row key)))
  revised_stands {place} value w row i = record {
    kept = λ rest s.
        let x = i.item in
        let y = record x { value = value } in
        let words = hash_words row in
        let next = first_of item_addr 0 i.behind in
        subst (λ (items : List HashItem). BlocksAre new.blocks (opened_entries hash words items ++ rest))
        (sym (ap (revised key value) i.whole ∙ revised_at key value i.before x i.behind i.none i.keyed))
        (joined hash words i.before y i.behind rest
        (word_set old.blocks new.blocks x.addr kinds.HashEntry (next ∷ x.value ∷ []) x.key 1 value
        ((hash, words_block words) ∷ linked item_addr item_block 0 x.addr i.before)
        (linked item_addr item_block (last_of item_addr 0 i.before) 0 i.behind ++ rest)
        (subst (λ p. new.blocks ≡ (with_word old p 1 value).blocks) i.at_addr (heap_blocks w)) (omega arith)
        (cut hash words i.before x i.behind rest
        (subst (λ (items : List HashItem). BlocksAre old.blocks (opened_entries hash words items ++ rest)) i.whole
        s))));
  }

  pub revises : {place : Place} (value : ℕ) → Searches old.blocks front key (Some place) →
      new ≡ with_word old place.addr 1 value →
      RevisesKey hash key value old new
  revises {place} value s w = record {
    has = has f few small s;
    changes = λ row k.
        let items = items_by row key in
        let i = s.searched items (bucket_for f few small row k) in
        let x = i.item in
        let y = record x { value = value } in
        let whole : revised key value items ≡ i.before ++ (y ∷ i.behind) =
        ap (revised key value) i.whole ∙ revised_at key value i.before x i.behind i.none i.keyed in
        let a = length-append i.before (x ∷ i.behind) in
        let b = length-append i.before (y ∷ i.behind) in
        let m = ap (length {A = HashItem}) whole in
        let n = ap (length {A = HashItem}) i.whole in
        let first : first_of item_addr 0 (revised key value items) ≡ first_of item_addr 0 items =
        ap (first_of item_addr 0) whole ∙ first-append item_addr item_block 0 i.before (y ∷ i.behind)
        ∙ sym (ap (first_of item_addr 0) i.whole ∙ first-append item_addr item_block 0 i.before (x ∷ i.behind)) in
        let p = bucket_of (length row.buckets) key in
        let less = bucket_below key k in
        closed hash row p (hash_words row) (revised key value items) less
        (words_same row p (revised key value items) less (omega (arith, a, b, m, n)) first)
        (revised_stands value w row i);
    same = ap besides w;
  }

-- why no key comes, or goes
pub insert_stops : {hash : ℕ} {key : List ℕ} (old new : Heap) (stop : Stop) → LacksKey old.blocks hash key →
    OnlyShort (16 + length key) old new stop → InsertStops hash key old new stop
insert_stops old new (Refused (NoBlock need)) l u = (l, u)
insert_stops old new (Refused (LogFull lines room)) l u = (l, u)
insert_stops old new (Refused refusal) l u = absurd u
insert_stops old new DiskFault l u = tt
insert_stops old new MediaFault l u = absurd u
insert_stops old new Failed l u = tt

pub change_stops : {hash : ℕ} {key : List ℕ} (old new : Heap) (stop : Stop) → HasKey old.blocks hash key →
    OnlyUnmoved old new stop → ChangeStops hash key old new stop
change_stops old new (Refused (LogFull lines room)) l u = (l, u)
change_stops old new (Refused refusal) l u = absurd u
change_stops old new DiskFault l u = tt
change_stops old new MediaFault l u = absurd u
change_stops old new Failed l u = tt
