-- What the blocks of a heap tell of one another is right where an audit of its owners, lists, hashes, names and counts passes.
use Rattle.std.proofs.Common.{◌≡◌, ◌≤◌, ◌<◌, ◌+◌, ◌-◌, ◌/◌, ◌==◌, ◌||◌, ℕ, Bool, List, not, true, false, length, get_or, take, map, nat_eq, sum_by, arith, ap, ◌∙◌, refl, sym, subst, inl, inr, eqb-true}
use Rattle.std.specs.Prelude.{is_none, Option, None, Some, nat_le, slice_index_or}
use Rattle.std.specs.Cmp.Lexicographic.{bytes_decides, pointwise}
use Rattle.std.specs.List.{All, list_all, range_with_len}
use Rattle.std.proofs.lemmas.Bool.{and_cases, and_from, and_parts, eq-eqb, eqb-false, leb-true, not-false, not-true, or_cases, or_left, or_right}
use Rattle.std.proofs.lemmas.List.{drop-drop, get_or-drop, length-map}
use Rattle.std.proofs.lemmas.List.Concat.{length-flat_map}
use Rattle.std.proofs.lemmas.List.Elements.{All-map}
use Rattle.std.proofs.lemmas.List.FromFn.{get_or-range_with_len, length-range_with_len}
use Rattle.std.proofs.lemmas.List.Sums.{AllPass-from_list_all}
use Rattle.std.proofs.lemmas.Simd.{map-map}
use Rattle.sdr_base.specs.Blocks.{Block}
use Rattle.sdr_base.specs.declared.kind.Kind.TheVariants as kinds
use Rattle.audit_counts.specs.Counted.{IsCounted}
use Rattle.audit_counts.specs.Rules.{extent_length, has_taken, is_flagged}
use Rattle.audit_counts.specs.declared.rules.CountRule.TheVariants as counts
use Rattle.audit_owners.proofs.KeyedLemmas.{distinct_from}
use Rattle.audit_owners.specs.Entries.{bucket, bucket_count, buckets, entry_count, fits_bucket, keeps_bucket}
use Rattle.audit_owners.specs.Members.{members}
use Rattle.audit_owners.specs.Texts.{first_repeated, text_at}
use Rattle.audit_owners.specs.declared.key_rules.KeyRule.TheVariants as keys
use Rattle.audit_owners.specs.declared.texts.EntryText.TheVariants as texts
use Rattle.sdr_model.proofs.SumLemmas.{sum_by-map}
use Rattle.sdr_model.specs.HashSteps.{bucket_of}
use Rattle.sdr_model.specs.PartSteps.{part_end}
use Rattle.sdr_model.specs.Valid.{AreDistinct, names_of}
use Rattle.sdr_model.specs.Zco.{extents_length}
use Rattle.sdr_model.specs.declared.name.Name.{Name}
use Rattle.sdr_model.specs.declared.things.HashEntry.{HashEntry}
use Rattle.sdr_model.specs.declared.zco.Extent.{Extent}
use Rattle.audit_owners.specs.Reading.{bytes_of}
use Rattle.audit_owners.specs.Rules.{is_source_of_raw}
use Rattle.audit_owners.specs.View.{View, is_kind, length_of, word_of}
use Rattle.audit_owners.specs.declared.owner.Owner.TheVariants as owners
use Rattle.audit_world.proofs.BucketLemmas.{all_groups}
use Rattle.audit_world.proofs.Fitting.{AreFitting, IsRightExtent, IsRightHash, IsRightSource}
use Rattle.audit_world.proofs.HashLemmas.{own_hash, whole_hash}
use Rattle.audit_world.proofs.OwnLemmas.{IsAudited, layout_of, own_of}
use Rattle.audit_world.proofs.RiseLemmas.{rows_distinct}
use Rattle.audit_world.proofs.TiesLemmas.{unless}
use Rattle.audit_world.specs.Told.{bucket_told, entry_told, extent_told, hash_told, name_told, object_told, world_told}

key_read : (heap : View) (addr : ℕ) → text_at heap texts.Key addr ≡ (entry_told heap addr).key
key_read heap addr = refl

name_read : (heap : View) (addr : ℕ) → text_at heap texts.Name addr ≡ (name_told heap addr).name
name_read heap addr =
    let bytes : List ℕ = bytes_of (heap.blocks addr) in
    λ i. take (sym (get_or-drop 24 bytes 0 0) i) (sym (drop-drop 1 24 bytes) i)

-- what passes of all numbers of a range passes of each
passes_at : (p : ℕ → Bool) (n k : ℕ) → list_all p (range_with_len 0 n) ≡ true → k < n → p k ≡ true
passes_at p n k all less =
    let long = length-range_with_len 0 n in
    let at = get_or-range_with_len 0 n k 0 less in
    let same : k ≡ get_or (range_with_len 0 n) k 0 = omega (arith, at) in
    ap p same ∙ AllPass-from_list_all p (range_with_len 0 n) all k 0 (omega (arith, long, less))

none_is : {X : Type 0} (o : Option X) → is_none o ≡ true → o ≡ None
none_is None is = refl
none_is (Some x) is = let d : false ≡ true = is in cc

module _ (heap : View) (words : ℕ) (a : IsAudited heap words) (c : IsCounted heap words) where
  -- the names of the told world are those of the catalogue's entries
  names_so : AreDistinct (names_of (world_told heap words))
  names_so =
      let ms : List ℕ = members heap words owners.Catalogue in
      subst AreDistinct ((λ i. map (λ (n : ℕ). name_read heap n i) ms) ∙ sym (map-map (λ (n : Name). n.name) (name_told heap) ms))
      c.keyed.names

  lists_so : (addr : ℕ) → is_kind kinds.List (heap.blocks addr) ≡ true →
      word_of (heap.blocks addr) 1 ≡ length (members heap words (owners.List addr))
  lists_so addr is =
      eqb-true (word_of (heap.blocks addr) 1) (length (members heap words (owners.List addr)))
      (unless heap words a (is_kind kinds.List (heap.blocks addr)) _ (c.keyed.kept keys.Length addr) is)

  -- the hash at an address
  module _ (addr : ℕ) (is : is_kind kinds.Hash (heap.blocks addr) ≡ true) where
    many : bucket_count heap addr ≡ word_of (heap.blocks addr) 1
    many =
        let b = own_hash heap words a addr is in
        let whole = whole_hash heap words a addr is in
        ap (λ (o : Option Block). length_of o / 8 - 3) b.is ∙ omega (arith, whole)

    kept :
        (list_all (keeps_bucket heap words addr) (buckets heap addr) ≡ true)
        × ((word_of (heap.blocks addr) 2 == entry_count heap words addr) ≡ true)
    kept =
        and_parts (list_all (keeps_bucket heap words addr) (buckets heap addr)) _
        (unless heap words a (is_kind kinds.Hash (heap.blocks addr)) _ (c.keyed.kept keys.Entries addr) is)

    -- what a bucket keeps
    kept_bucket : (k : ℕ) → k < word_of (heap.blocks addr) 1 → keeps_bucket heap words addr k ≡ true
    kept_bucket k less =
        let n = many in
        passes_at (keeps_bucket heap words addr) (bucket_count heap addr) k kept.0 (omega (arith, n, less))

    kept_entries : (k : ℕ) → k < word_of (heap.blocks addr) 1 → All (λ e. fits_bucket heap addr k e ≡ true) (bucket heap words addr k)
    kept_entries k less =
        AllPass-from_list_all (fits_bucket heap addr k) (bucket heap words addr k)
        (and_parts (list_all (fits_bucket heap addr k) (bucket heap words addr k)) _ (kept_bucket k less)).0

    -- its entries are in their buckets
    bucket_right : (k : ℕ) → k < word_of (heap.blocks addr) 1 →
        All (λ e. bucket_of (word_of (heap.blocks addr) 1) e.key ≡ k) (bucket_told heap words addr k)
    bucket_right k less =
        All-map (λ (e : HashEntry). bucket_of (word_of (heap.blocks addr) 1) e.key ≡ k) (entry_told heap) (bucket heap words addr k)
        (λ i d inside.
        let at : ℕ = slice_index_or (bucket heap words addr k) i d in
        let fits = and_parts (length (text_at heap texts.Key at) == word_of (heap.blocks addr) 0) _ (kept_entries k less i d inside) in
        (λ j. bucket_of (sym many j) (sym (key_read heap at) j))
        ∙ eqb-true (bucket_of (bucket_count heap addr) (text_at heap texts.Key at)) k fits.1)

    lengths_right : (k : ℕ) → k < word_of (heap.blocks addr) 1 →
        All (λ e. length e.key ≡ word_of (heap.blocks addr) 0) (bucket_told heap words addr k)
    lengths_right k less =
        All-map (λ (e : HashEntry). length e.key ≡ word_of (heap.blocks addr) 0) (entry_told heap) (bucket heap words addr k)
        (λ i d inside.
        let at : ℕ = slice_index_or (bucket heap words addr k) i d in
        let fits = and_parts (length (text_at heap texts.Key at) == word_of (heap.blocks addr) 0) _ (kept_entries k less i d inside) in
        ap (λ (l : List ℕ). length l) (sym (key_read heap at))
        ∙ eqb-true (length (text_at heap texts.Key at)) (word_of (heap.blocks addr) 0) fits.0)

    keys_apart : (k : ℕ) → k < word_of (heap.blocks addr) 1 → AreDistinct (map (λ e. e.key) (bucket_told heap words addr k))
    keys_apart k less =
        let ms : List ℕ = bucket heap words addr k in
        subst AreDistinct ((λ i. map (λ (n : ℕ). key_read heap n i) ms) ∙ sym (map-map (λ (e : HashEntry). e.key) (entry_told heap) ms))
        (distinct_from heap texts.Key ms
        (none_is (first_repeated heap texts.Key ms) (and_parts (list_all (fits_bucket heap addr k) ms) _ (kept_bucket k less)).1))

    count_right : word_of (heap.blocks addr) 2 ≡ length (hash_told heap words addr).entries
    count_right =
        let n : ℕ = word_of (heap.blocks addr) 1 in
        eqb-true (word_of (heap.blocks addr) 2) (entry_count heap words addr) kept.1
        ∙ ap (λ (n : ℕ). sum_by (λ (k : ℕ). length (bucket heap words addr k)) (range_with_len 0 n)) many
        ∙ (λ i. sum_by (λ (k : ℕ). sym (length-map (bucket heap words addr k) (entry_told heap)) i) (range_with_len 0 n))
        ∙ sym (length-flat_map (bucket_told heap words addr) (range_with_len 0 n))

    hash_right : IsRightHash heap words addr
    hash_right =
        let n : ℕ = word_of (heap.blocks addr) 1 in
        record {
          count = count_right;
          buckets = bucket_right;
          lengths =
              All-map (λ key. length key ≡ word_of (heap.blocks addr) 0) (λ (e : HashEntry). e.key) (hash_told heap words addr).entries
              (all_groups (λ (e : HashEntry). length e.key ≡ word_of (heap.blocks addr) 0) (bucket_told heap words addr) 0 n
              (λ k low high. lengths_right k (omega (arith, high))));
          distinct =
              rows_distinct (λ (e : HashEntry). e.key) (bucket_of n) (bucket_told heap words addr) (pointwise nat_eq)
              (λ x y on. ap (bucket_of n) ((bytes_decides x y).0 on)) 0 n
              (λ k low high. bucket_right k (omega (arith, high)))
              (λ k low high. keys_apart k (omega (arith, high)));
        }

  -- the source at an address
  module _ (addr : ℕ) (is : is_kind kinds.Source (heap.blocks addr) ≡ true) where
    taken : word_of (heap.blocks addr) 0 ≡ 3 → has_taken heap addr ≡ true
    taken medium = and_from (is_kind kinds.Source (heap.blocks addr)) _ is (eq-eqb (word_of (heap.blocks addr) 0) 3 medium)

    flagged : word_of (heap.blocks addr) 1 ≡ 1 → is_flagged heap addr ≡ true
    flagged flag = and_from (is_kind kinds.Source (heap.blocks addr)) _ is (ap (λ (n : ℕ). not (n == 0)) flag)

    unflagged_so : word_of (heap.blocks addr) 0 ≡ 3 → word_of (heap.blocks addr) 1 ≡ 0
    unflagged_so medium = elim (and_cases (is_kind kinds.Source (heap.blocks addr)) (not (word_of (heap.blocks addr) 1 == 0)) off) [
      | inl other ↦ let d : true ≡ false = sym is ∙ other in cc
      | inr null ↦ eqb-true (word_of (heap.blocks addr) 1) 0 (not-false (word_of (heap.blocks addr) 1 == 0) null)
    ]
      where
        off : is_flagged heap addr ≡ false
        off = not-true (is_flagged heap addr) (unless heap words a (has_taken heap addr) _ (c.kept counts.Unflagged addr) (taken medium))

    some_use : (is_flagged heap addr || has_taken heap addr) ≡ true → 1 ≤ word_of (heap.blocks addr) 2 + word_of (heap.blocks addr) 3
    some_use passing = elim (or_cases (not (word_of (heap.blocks addr) 2 == 0)) (not (word_of (heap.blocks addr) 3 == 0)) holds) [
      | inl inbound ↦ let some = nonzero (word_of (heap.blocks addr) 2) inbound in omega (arith, some)
      | inr outbound ↦ let some = nonzero (word_of (heap.blocks addr) 3) outbound in omega (arith, some)
    ]
      where
        nonzero : (n : ℕ) → not (n == 0) ≡ true → 1 ≤ n
        nonzero n some = let other = eqb-false n 0 (not-true (n == 0) some) in omega (arith, other)

        holds : (not (word_of (heap.blocks addr) 2 == 0) || not (word_of (heap.blocks addr) 3 == 0)) ≡ true
        holds =
            sym (ap (λ (t : Bool). not t || not (word_of (heap.blocks addr) 2 == 0) || not (word_of (heap.blocks addr) 3 == 0)) passing)
            ∙ c.kept counts.Used addr

    source_right : IsRightSource heap addr
    source_right = record {
      unflagged = unflagged_so;
      used = λ why. elim why [
        | inl medium ↦ some_use (or_right (is_flagged heap addr) (has_taken heap addr) (taken medium))
        | inr flag ↦ some_use (or_left (is_flagged heap addr) (has_taken heap addr) (flagged flag))
      ];
    }

  -- a raw object has the length that its source tells, behind a word
  raw_long : (addr : ℕ) → is_source_of_raw (heap.blocks addr) ≡ true →
      length_of (heap.blocks (word_of (heap.blocks addr) 4)) ≡ 8 + word_of (heap.blocks addr) 5
  raw_long addr names =
      let raw : ℕ = word_of (heap.blocks addr) 4 in
      let there : is_kind kinds.Raw (heap.blocks raw) ≡ true =
      unless heap words a (is_source_of_raw (heap.blocks addr)) _ (a.owned.kept.1.0 addr) names in
      let b = own_of heap words a kinds.Raw raw there in
      let long = ap (λ (o : Option Block). length_of o) b.is in
      let layout = and_parts (nat_le 8 (length b.own.bytes)) _ (layout_of heap words a kinds.Raw raw b) in
      let least = leb-true 8 (length b.own.bytes) layout.0 in
      let told =
      eqb-true (word_of (heap.blocks addr) 5) (length_of (heap.blocks raw) - 8)
      (unless heap words a (is_source_of_raw (heap.blocks addr)) _ (c.kept counts.RawLength addr) names) in
      omega (arith, long, least, told)

  extent_right : (addr : ℕ) → is_kind kinds.Extent (heap.blocks addr) ≡ true → IsRightExtent heap addr
  extent_right addr is = record {
    some =
        leb-true 1 (word_of (heap.blocks addr) 2)
        (unless heap words a (is_kind kinds.Extent (heap.blocks addr)) _ (c.kept counts.Bytes addr) is);
    inside =
        leb-true (word_of (heap.blocks addr) 1 + word_of (heap.blocks addr) 2) (word_of (heap.blocks (word_of (heap.blocks addr) 0)) 5)
        (unless heap words a (is_kind kinds.Extent (heap.blocks addr)) _ (c.kept counts.Inside addr) is);
  }

  part_inside : (addr : ℕ) → is_kind kinds.Object (heap.blocks addr) ≡ true →
      part_end (object_told heap words addr) ≤ extents_length (object_told heap words addr).extents
  part_inside addr is =
      let ms : List ℕ = members heap words (owners.Extents addr) in
      let all = sum_by-map (λ (e : Extent). e.length) (extent_told heap) ms in
      let most = leb-true (word_of (heap.blocks addr) 7 + word_of (heap.blocks addr) 8) (sum_by (extent_length heap) ms)
      (unless heap words a (is_kind kinds.Object (heap.blocks addr)) _ (c.kept counts.Part addr) is) in
      omega (arith, all, most)

  -- what its blocks tell of one another is right
  pub fits_so : AreFitting heap words
  fits_so = record {
    lists = lists_so;
    hashes = hash_right;
    names = names_so;
    sources = source_right;
    raws = raw_long;
    extents = extent_right;
    parts = part_inside;
  }
