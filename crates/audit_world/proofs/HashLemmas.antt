-- The blocks of a hash are those of what is read of it.
use Rattle.std.proofs.Common.{◌≡◌, ◌≤◌, ◌<◌, ◌+◌, ◌-◌, ◌*◌, ◌/◌, ◌==◌, ℕ, zero, suc, List, ◌∷◌, true, length, map, take, sum_by, arith, ap, ◌∙◌, refl, sym, subst, eqb-true}
use Rattle.std.specs.Prelude.{Some, nat_le}
use Rattle.std.specs.List.{flat_map, range_with_len}
use Rattle.std.proofs.lemmas.Bool.{and_parts, leb-true}
use Rattle.std.proofs.lemmas.List.{length-map}
use Rattle.std.proofs.lemmas.List.Concat.{length-flat_map}
use Rattle.std.proofs.lemmas.List.Elements.{All-append, All-cons, All-nil}
use Rattle.std.proofs.lemmas.List.FromFn.{length-map-range_with_len}
use Rattle.std.proofs.lemmas.Simd.{map-map}
use Rattle.sdr_stands.specs.Rows.{bucket_row, hash_row, item_row}
use Rattle.sdr_base.specs.Hashes.{HashItem, HashRow, bucket_entries, hash_block, hash_entries, item_addr, item_block}
use Rattle.sdr_base.specs.Linked.{first_of}
use Rattle.sdr_base.specs.Words.{layout}
use Rattle.sdr_base.specs.declared.kind.Kind.TheVariants as kinds
use Rattle.audit_owners.specs.Members.{members}
use Rattle.sdr_model.proofs.SumLemmas.{sum_by-map}
use Rattle.sdr_model.specs.HashSteps.{bucket_of}
use Rattle.sdr_model.specs.Limits.{most_buckets}
use Rattle.sdr_model.specs.declared.things.HashEntry.{HashEntry}
use Rattle.audit_owners.proofs.LinkingLemmas.{goes_linked}
use Rattle.audit_owners.proofs.ReadingLemmas.{IsOf, items_back, laid, none_behind, words_of}
use Rattle.audit_owners.specs.Linking.{AreRows, AllStandAt, StandsAt}
use Rattle.audit_owners.specs.Reading.{item_read}
use Rattle.audit_owners.specs.View.{View, is_kind, word_of}
use Rattle.audit_owners.specs.declared.owner.Owner.TheVariants as owners
use Rattle.audit_world.proofs.BucketLemmas.{group_of, map_alike}
use Rattle.audit_world.proofs.ChainLemmas.{IsTold, all_in_map}
use Rattle.audit_world.proofs.LayoutLemmas.{HasLayout, word_told}
use Rattle.audit_world.proofs.LinkLemmas.{block_told}
use Rattle.audit_world.proofs.OwnLemmas.{IsAudited, layout_of, nonzero, own_of, readable}
use Rattle.audit_world.proofs.Fitting.{IsRightHash}
use Rattle.audit_world.specs.Told.{bucket_told, entry_told, hash_told}
use Rattle.audit_blocks.specs.Content.{field, is_key_length}

-- what the layout of a hash asks of its first bytes, and of its length
pub record IsHash (count : ℕ) (first : List ℕ) : Type 0 where
  pub long : 24 ≤ count
  pub key : is_key_length (field first 0) ≡ true
  pub least : 1 ≤ field first 1
  pub most : field first 1 ≤ most_buckets
  pub whole : count ≡ 24 + 8 * field first 1

pub is_hash_so : (bytes : List ℕ) → HasLayout kinds.Hash bytes → IsHash (length bytes) (take 96 bytes)
is_hash_so bytes l =
    let first : List ℕ = take 96 bytes in
    let p = and_parts _ (length bytes == 24 + 8 * field first 1) l in
    let q = and_parts _ (nat_le (field first 1) most_buckets) p.0 in
    let r = and_parts _ (nat_le 1 (field first 1)) q.0 in
    let s = and_parts (nat_le 24 (length bytes)) (is_key_length (field first 0)) r.0 in
    record {
      long = leb-true 24 (length bytes) s.0;
      key = s.1;
      least = leb-true 1 (field first 1) r.1;
      most = leb-true (field first 1) most_buckets q.1;
      whole = eqb-true (length bytes) _ p.1;
    }

module _ (heap : View) (words : ℕ) (a : IsAudited heap words) (addr : ℕ) (is : is_kind kinds.Hash (heap.blocks addr) ≡ true) where
  abbrev pub own_hash : IsOf (heap.blocks addr) kinds.Hash
  own_hash = own_of heap words a kinds.Hash addr is

  pub hash_layout : IsHash (length own_hash.own.bytes) (take 96 own_hash.own.bytes)
  hash_layout = is_hash_so own_hash.own.bytes (layout_of heap words a kinds.Hash addr own_hash)

  buckets_told : word_of (heap.blocks addr) 1 ≡ field (take 96 own_hash.own.bytes) 1
  buckets_told =
      let long = hash_layout.long in
      word_told (heap.blocks addr) own_hash.own 1 own_hash.is (omega (arith, long)) (omega arith)

  -- the bytes of the hash, by its buckets
  pub whole_hash : length own_hash.own.bytes ≡ 24 + 8 * word_of (heap.blocks addr) 1
  whole_hash = let w = hash_layout.whole in let e = buckets_told in omega (arith, w, e)

  -- the chain of a bucket
  pub bucket_chain : (k : ℕ) → k < word_of (heap.blocks addr) 1 → IsTold heap words (owners.Bucket addr (3 + k))
  bucket_chain k less =
      let whole = whole_hash in
      all_in_map (IsTold heap words) (λ (number : ℕ). owners.Bucket addr (3 + number)) (length own_hash.own.bytes / 8 - 3) 0 k (omega arith)
      (omega (arith, whole, less)) (block_told heap words a kinds.Hash addr own_hash)

  abbrev pub rows : ℕ → List HashItem
  rows k = map (item_read heap) (members heap words (owners.Bucket addr (3 + k)))

  item_rows : (k : ℕ) (less : k < word_of (heap.blocks addr) 1) →
      AreRows heap item_addr item_block 0 (word_of (heap.blocks addr) (3 + k)) (rows k) (bucket_chain k less).last
  item_rows k less =
      goes_linked heap (owners.Bucket addr (3 + k)) item_addr item_block (item_read heap) (items_back heap (readable heap words a) addr (3 + k)) 0
      (word_of (heap.blocks addr) (3 + k)) (members heap words (owners.Bucket addr (3 + k))) (bucket_chain k less).last (bucket_chain k less).goes

  -- the fronts of so many buckets from one on
  fronts : (from n : ℕ) → from + n ≤ word_of (heap.blocks addr) 1 →
      words_of (heap.blocks addr) (3 + from) n ≡ map (λ (k : ℕ). first_of item_addr 0 (rows k)) (range_with_len from n)
  fronts from zero few = refl
  fronts from (suc n) few =
      let e : 3 + from + 1 ≡ 3 + (from + 1) = omega arith in
      (λ i.
      (item_rows from (omega (arith, few))).first i
      ∷ (ap (λ (k : ℕ). words_of (heap.blocks addr) k n) e ∙ fronts (from + 1) n (omega (arith, few))) i)

  -- their chains stand
  fronts_stand : (from n : ℕ) → from + n ≤ word_of (heap.blocks addr) 1 →
      AllStandAt heap (flat_map bucket_entries (map rows (range_with_len from n)))
  fronts_stand from zero few = All-nil (StandsAt heap)
  fronts_stand from (suc n) few =
      All-append (StandsAt heap) (bucket_entries (rows from)) (flat_map bucket_entries (map rows (range_with_len (from + 1) n)))
      (item_rows from (omega (arith, few))).stand (fronts_stand (from + 1) n (omega (arith, few)))

  module _ (h : IsRightHash heap words addr) where
    count_all : word_of (heap.blocks addr) 2 ≡ sum_by (λ (l : List HashItem). length l) (map rows (range_with_len 0 (word_of (heap.blocks addr) 1)))
    count_all =
        let range : List ℕ = range_with_len 0 (word_of (heap.blocks addr) 1) in
        h.count ∙ length-flat_map (bucket_told heap words addr) range
        ∙ (λ i. sum_by (λ (k : ℕ). (
        length-map (members heap words (owners.Bucket addr (3 + k))) (entry_told heap)
        ∙ sym (length-map (members heap words (owners.Bucket addr (3 + k))) (item_read heap))
        ) i) range)
        ∙ sym (sum_by-map (λ (l : List HashItem). length l) rows range)

    -- the entries in each of its buckets are those in the chain of that
    pub buckets_same :
        map (bucket_row (hash_told heap words addr)) (range_with_len 0 (word_of (heap.blocks addr) 1)) ≡ map rows (range_with_len 0 (word_of (heap.blocks addr) 1))
    buckets_same =
        let n : ℕ = word_of (heap.blocks addr) 1 in
        map_alike (bucket_row (hash_told heap words addr)) rows 0 n
        (λ k low less.
        ap (map item_row)
        (group_of (λ (e : HashEntry). bucket_of n e.key) (bucket_told heap words addr) k 0 n
        (λ j l below. h.buckets j (omega (arith, below))) (omega arith) less)
        ∙ map-map item_row (entry_told heap) (members heap words (owners.Bucket addr (3 + k))))

    -- its blocks are those of what is read of it
    pub hash_stands : AllStandAt heap (hash_entries addr (hash_row (hash_told heap words addr)))
    hash_stands =
        let b = own_hash in
        let w = word_of (heap.blocks addr) in
        let n : ℕ = w 1 in
        let whole = whole_hash in
        let range : List ℕ = range_with_len 0 n in
        let long : length b.own.bytes ≡ 8 * suc (suc (suc n)) = omega (arith, whole) in
        let row : HashRow = record { key_length = w 0; buckets = map rows range } in
        let firsts : words_of (heap.blocks addr) 3 n ≡ map (first_of item_addr 0) (map rows range) =
        fronts 0 n (omega arith) ∙ sym (map-map (first_of item_addr 0) rows range) in
        let own : heap.blocks addr ≡ Some (hash_block row) =
        laid heap (readable heap words a) kinds.Hash addr b (suc (suc (suc n))) (omega (arith, long))
        ∙ (λ i. Some (record {
          kind = kinds.Hash;
          bytes =
              layout (w 0 ∷ sym (length-map-range_with_len rows 0 n) i ∷ count_all i ∷ firsts i)
              (none_behind heap (readable heap words a) kinds.Hash addr b (suc (suc (suc n))) long i);
        })) in
        subst (AllStandAt heap)
        (λ i. hash_entries addr (record { key_length = w 0; buckets = sym buckets_same i }))
        (All-cons (StandsAt heap) (addr, hash_block row) (flat_map bucket_entries row.buckets)
        (record { some = nonzero heap words a addr b.own b.is; is = own }) (fronts_stand 0 n (omega arith)))
