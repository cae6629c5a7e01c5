-- Lists, hashes and names of a heap that keeps a world are right.
use Rattle.std.proofs.Common.{◌≡◌, ◌≤◌, ◌<◌, ◌+◌, ◌/◌, ◌^◌, ◌==◌, ◌&&◌, ℕ, zero, suc, Bool, true, false, cond, nat_eq, List, [], ◌∷◌, map, filter, length, take, sum_by, Some, arith, refl, sym, ap, ◌∙◌, subst}
use Rattle.std.specs.Prelude.{Option, is_none}
use Rattle.std.specs.Cmp.Lexicographic.{pointwise}
use Rattle.std.specs.List.{All, list_all, range_with_len}
use Rattle.std.proofs.lemmas.Bool.{and_from, eq-eqb}
use Rattle.std.proofs.lemmas.List.{drop-drop, get_or-drop, length-map}
use Rattle.std.proofs.lemmas.List.Elements.{All-head, All-tail}
use Rattle.std.proofs.lemmas.List.Folds.{list_all-map}
use Rattle.std.proofs.lemmas.List.FromFn.{length-range_with_len}
use Rattle.std.proofs.lemmas.List.Sums.{sum_by-le}
use Rattle.std.proofs.lemmas.Nat.{mul-le}
use Rattle.std.proofs.lemmas.Simd.{map-map}
use Rattle.sdr_base.proofs.LayoutLemmas.{length-layout}
use Rattle.sdr_base.specs.Blocks.{Block}
use Rattle.sdr_base.specs.Hashes.{HashItem, item_addr}
use Rattle.sdr_base.specs.Linked.{first_of, last_of}
use Rattle.sdr_base.specs.Lists.{addr_of}
use Rattle.sdr_base.specs.Pools.{Pools}
use Rattle.sdr_base.specs.declared.kind.Kind.TheVariants as kinds
use Rattle.sdr_stands.specs.Rows.{bucket_row, element_row}
use Rattle.sdr_stands.specs.Standing.{StandsForWhole}
use Rattle.audit_owners.proofs.KeyedLemmas.{from_distinct}
use Rattle.audit_owners.proofs.MembersLemmas.{length-followed}
use Rattle.audit_owners.specs.Entries.{bucket, bucket_count, buckets, entry_count, fits_bucket, keeps_bucket, keeps_entries, keeps_length}
use Rattle.audit_owners.specs.Keyed.{IsKeyed, catalogue, keeps_key_rule}
use Rattle.audit_owners.specs.Members.{members}
use Rattle.audit_owners.specs.Texts.{first_repeated, text_at}
use Rattle.audit_owners.specs.declared.key_rules.KeyRule.{KeyRule}
use Rattle.audit_owners.specs.declared.key_rules.KeyRule.TheVariants as which
use Rattle.audit_owners.specs.declared.texts.EntryText.TheVariants as texts
use Rattle.sdr_model.proofs.SumLemmas.{sum_by-map}
use Rattle.sdr_model.specs.Fields.{FitsEntry}
use Rattle.sdr_model.specs.HashSteps.{bucket_of}
use Rattle.sdr_model.specs.Hashes.{Hash}
use Rattle.sdr_model.specs.Valid.{AreDistinct, IsValidHash}
use Rattle.sdr_model.specs.World.{World, thing_at}
use Rattle.sdr_model.specs.declared.name.Name.{Name}
use Rattle.sdr_model.specs.declared.things.HashEntry.{HashEntry}
use Rattle.sdr_model.specs.declared.things.SdrList.{SdrList}
use Rattle.sdr_model.specs.declared.things.Thing.TheVariants as things
use Rattle.audit_owners.proofs.LayoutLemmas.{word_laid}
use Rattle.audit_owners.specs.Chains as chains
use Rattle.audit_owners.specs.Owned.{AreBytes}
use Rattle.audit_owners.specs.Reading.{bytes_of}
use Rattle.audit_owners.specs.View.{View, is_kind, length_of, view_in, word_of}
use Rattle.audit_owners.specs.declared.owner.Owner.{Owner}
use Rattle.audit_owners.specs.declared.owner.Owner.TheVariants as owners
use Rattle.audit_world.proofs.BucketLemmas.{map_alike}
use Rattle.audit_world.specs.Told.{element_told, entry_told, hash_told, list_told, name_told}
use Rattle.sdr_audit.proofs.CountLemmas.{thing_there, where_so}
use Rattle.sdr_audit.proofs.DistinctLemmas.{distinct_kept}
use Rattle.sdr_audit.proofs.HashLemmas.{bucket_is, hash_word, length-buckets}
use Rattle.sdr_audit.proofs.MembersLemmas.{bucket_members, region}
use Rattle.sdr_audit.proofs.ToldStandLemmas.{own_stands}
use Rattle.sdr_audit.proofs.ThingLemmas.{fits_thing, valid_thing}
use Rattle.sdr_audit.proofs.ToldLemmas.{names_are}
use Rattle.sdr_audit.proofs.KeptLemmas.{All-unmap}
use Rattle.sdr_audit.proofs.SoundStandLemmas.{All-every}

-- a test that passes at each of so many numbers passes at all
all_range : (p : ℕ → Bool) (a n : ℕ) → ((k : ℕ) → a ≤ k → k < a + n → p k ≡ true) → list_all p (range_with_len a n) ≡ true
all_range p a zero passes = refl
all_range p a (suc n) passes =
    and_from (p a) (list_all p (range_with_len (a + 1) n)) (passes a (omega arith) (omega arith))
    (all_range p (a + 1) n (λ k low less. passes k (omega (arith, low)) (omega (arith, less))))

-- what two functions give alike at each of so many numbers has the same sum
sum_range : (f g : ℕ → ℕ) (n : ℕ) → ((k : ℕ) → k < n → f k ≡ g k) → sum_by f (range_with_len 0 n) ≡ sum_by g (range_with_len 0 n)
sum_range f g n alike =
    let id : ℕ → ℕ = λ k. k in
    sym (sum_by-map id f (range_with_len 0 n)) ∙ ap (sum_by id) (map_alike f g 0 n (λ k low less. alike k (omega (arith, less))))
    ∙ sum_by-map id g (range_with_len 0 n)

-- where those that pass a test have keys that pass another, all their keys do
keys_pass : (q : List ℕ → Bool) (p : HashEntry → Bool) (R : HashEntry → Type 0) → ((e : HashEntry) → p e ≡ true → R e → q e.key ≡ true) →
    (es : List HashEntry) → All R es → list_all q (map (λ (e : HashEntry). e.key) (filter p es)) ≡ true
keys_pass q p R passes [] all = refl
keys_pass q p R passes (e ∷ es) all =
    let rest = keys_pass q p R passes es (All-tail R e es all) in
    elim (p e) as (λ t. p e ≡ t → list_all q (map (λ (e : HashEntry). e.key) (cond t (e ∷ filter p es) (filter p es))) ≡ true) [
      | true ↦ λ on. and_from (q e.key) (list_all q (map (λ (e : HashEntry). e.key) (filter p es))) (passes e on (All-head R e es all)) rest
      | false ↦ λ off. rest
    ] refl

module _ (heap : View) where
  -- the key of an entry is what is told of it
  key_told : (n : ℕ) → text_at heap texts.Key n ≡ (entry_told heap n).key
  key_told n = refl

  keys_told : (ns : List ℕ) → map (text_at heap texts.Key) ns ≡ map (λ (e : HashEntry). e.key) (map (entry_told heap) ns)
  keys_told ns = (λ i. map (λ (n : ℕ). key_told n i) ns) ∙ sym (map-map (λ (e : HashEntry). e.key) (entry_told heap) ns)

  -- so is a name
  name_is : (n : ℕ) → text_at heap texts.Name n ≡ (name_told heap n).name
  name_is n =
      let bytes : List ℕ = bytes_of (heap.blocks n) in
      (λ i. take (sym (get_or-drop 24 (bytes_of (heap.blocks n)) 0 0) i) (sym (drop-drop 1 24 (bytes_of (heap.blocks n))) i))

  names_told : (ns : List ℕ) → map (text_at heap texts.Name) ns ≡ map (λ (n : Name). n.name) (map (name_told heap) ns)
  names_told ns = (λ i. map (λ (n : ℕ). name_is n i) ns) ∙ sym (map-map (λ (n : Name). n.name) (name_told heap) ns)

module _ (bytes : List ℕ) (w : World) (P : Pools) (s : StandsForWhole bytes w P) (are : AreBytes bytes) where
  abbrev heap : View
  heap = view_in bytes

  abbrev words : ℕ
  words = length bytes / 8

  -- an owner has no more blocks than there are words, of which there are few
  few_members : (owner : Owner) → length (members heap words owner) ≤ words
  few_members owner = length-followed heap owner words (chains.first_link heap owner)

  few_words : words < 2 ^ 30
  few_words =
      let lines = (region bytes w P s).whole in
      let most = (region bytes w P s).most in
      omega (arith, lines, most)

  -- a list tells its length
  lengths_told : (addr : ℕ) → keeps_length heap words addr ≡ true
  lengths_told addr =
      where_so (is_kind kinds.List (heap.blocks addr)) _ (λ is.
      let list : SdrList = list_told heap words addr in
      let there = thing_there bytes w P s are kinds.List addr is in
      let rows = map element_row list.elements in
      let many : length rows ≡ length (members heap words (owners.List addr)) =
      length-map list.elements element_row ∙ length-map (members heap words (owners.List addr)) (element_told heap) in
      let few = few_members (owners.List addr) in
      let most = few_words in
      let word =
      ap (λ (b : Option Block). word_of b 1) (own_stands heap w s.stands.blocks addr (things.List list) there)
      ∙ word_laid kinds.List (list.user ∷ length rows ∷ first_of addr_of 0 rows ∷ last_of addr_of 0 rows ∷ []) [] 1 (omega arith)
      (omega (arith, many, few, most)) in
      eq-eqb (word_of (heap.blocks addr) 1) (length (members heap words (owners.List addr))) (word ∙ many))

  module _ (addr : ℕ) (hash : Hash) (is : thing_at w addr ≡ Some (things.Hash hash)) (fits : All FitsEntry hash.entries)
      (valid : IsValidHash hash) where
    count_is : bucket_count heap addr ≡ hash.buckets
    count_is =
        let own = ap length_of (own_stands heap w s.stands.blocks addr (things.Hash hash) is) in
        let rows : List (List HashItem) = map (bucket_row hash) (range_with_len 0 hash.buckets) in
        let fronts : List ℕ = map (first_of item_addr 0) rows in
        let laid = length-layout (hash.key_length ∷ length rows ∷ sum_by length rows ∷ fronts) [] in
        let many = length-map rows (first_of item_addr 0) in
        let count = length-buckets bytes w P s addr hash is fits in
        omega (arith, own, laid, many, count)

    abbrev in_bucket : ℕ → HashEntry → Bool
    in_bucket k e = bucket_of hash.buckets e.key == k

    -- the keys of the entries in a bucket
    keys_are : (k : ℕ) → k < hash.buckets →
        map (text_at heap texts.Key) (bucket heap words addr k) ≡ map (λ (e : HashEntry). e.key) (filter (in_bucket k) hash.entries)
    keys_are k less =
        keys_told heap (bucket heap words addr k) ∙ ap (map (λ (e : HashEntry). e.key)) (bucket_is bytes w P s addr hash is fits k less)

    bucket_kept : (k : ℕ) → k < hash.buckets → keeps_bucket heap words addr k ≡ true
    bucket_kept k less =
        let most = valid.key_length.1 in
        let key = hash_word bytes w P s addr hash is fits 0 (omega arith) (omega (arith, most)) in
        let fitting : List ℕ → Bool = λ key. length key == word_of (heap.blocks addr) 0 && bucket_of (bucket_count heap addr) key == k in
        and_from (list_all (fits_bucket heap addr k) (bucket heap words addr k))
        (is_none (first_repeated heap texts.Key (bucket heap words addr k)))
        (sym (list_all-map fitting (text_at heap texts.Key) (bucket heap words addr k)) ∙ ap (list_all fitting) (keys_are k less)
        ∙ keys_pass fitting (in_bucket k) (λ (e : HashEntry). length e.key ≡ hash.key_length)
        (λ e on long.
        and_from (length e.key == word_of (heap.blocks addr) 0) (bucket_of (bucket_count heap addr) e.key == k)
        (eq-eqb (length e.key) (word_of (heap.blocks addr) 0) (long ∙ sym key))
        (ap (λ (n : ℕ). bucket_of n e.key == k) count_is ∙ on)) hash.entries
        (All-unmap (λ key. length key ≡ hash.key_length) (λ (e : HashEntry). e.key) hash.entries valid.keys))
        (ap is_none
        (from_distinct heap texts.Key (bucket heap words addr k)
        (subst AreDistinct (sym (keys_are k less))
        (distinct_kept (pointwise nat_eq) (λ (e : HashEntry). e.key) (in_bucket k) hash.entries valid.distinct_keys))))

    -- the count of its entries
    entries_are : word_of (heap.blocks addr) 2 ≡ entry_count heap words addr
    entries_are =
        let held : ℕ → ℕ = λ k. length (bucket heap words addr k) in
        let sum : sum_by length (map (bucket_row hash) (range_with_len 0 hash.buckets)) ≡ sum_by held (range_with_len 0 hash.buckets) =
        sum_by-map length (bucket_row hash) (range_with_len 0 hash.buckets)
        ∙ sum_range (λ k. length (bucket_row hash k)) held hash.buckets
        (λ k less.
        sym (ap (λ (l : List ℕ). length l) (bucket_members bytes w P s addr hash is k less) ∙ length-map (bucket_row hash k) item_addr)) in
        let most =
        sum_by-le held words (range_with_len 0 hash.buckets)
        (All-every (λ k. held k ≤ words) (λ k. few_members (owners.Bucket addr (3 + k))) (range_with_len 0 hash.buckets)) in
        let count = length-range_with_len 0 hash.buckets in
        let wide = valid.buckets.1 in
        let few = few_words in
        let all = mul-le (length (range_with_len 0 hash.buckets)) words 256 (2 ^ 30) (omega (arith, count, wide)) (omega (arith, few)) in
        hash_word bytes w P s addr hash is fits 2 (omega arith) (omega (arith, sum, most, all))
        ∙ sum ∙ ap (λ (n : ℕ). sum_by held (range_with_len 0 n)) (sym count_is)

    entries_kept :
        (list_all (keeps_bucket heap words addr) (buckets heap addr) && word_of (heap.blocks addr) 2 == entry_count heap words addr) ≡ true
    entries_kept =
        and_from (list_all (keeps_bucket heap words addr) (buckets heap addr)) (word_of (heap.blocks addr) 2 == entry_count heap words addr)
        (ap (λ (n : ℕ). list_all (keeps_bucket heap words addr) (range_with_len 0 n)) count_is
        ∙ all_range (keeps_bucket heap words addr) 0 hash.buckets (λ k low less. bucket_kept k (omega (arith, less))))
        (eq-eqb (word_of (heap.blocks addr) 2) (entry_count heap words addr) entries_are)

  -- a hash has right buckets, and tells how many entries it has
  hashes_kept : (addr : ℕ) → keeps_entries heap words addr ≡ true
  hashes_kept addr =
      where_so (is_kind kinds.Hash (heap.blocks addr)) _ (λ is.
      let there = thing_there bytes w P s are kinds.Hash addr is in
      let hash : Hash = hash_told heap words addr in
      entries_kept addr hash there (fits_thing bytes w P s addr (things.Hash hash) there).1
      (valid_thing bytes w P s addr (things.Hash hash) there))

  rules_kept : (rule : KeyRule) (addr : ℕ) → keeps_key_rule heap words rule addr ≡ true
  rules_kept which.Length addr = lengths_told addr
  rules_kept which.Entries addr = hashes_kept addr

  -- all lists, hashes and names are right
  pub keyed_right : IsKeyed heap words
  keyed_right = record {
    kept = rules_kept;
    names =
        subst AreDistinct
        (sym (names_told heap (catalogue heap words) ∙ ap (map (λ (n : Name). n.name)) (names_are bytes w P s)))
        s.whole.valid.distinct_names;
  }
