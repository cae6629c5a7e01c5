-- What is told of a hash, and of a list, is the hash or list of the world.
use Rattle.std.proofs.Common.{◌≡◌, ◌≤◌, ◌<◌, ◌/◌, ◌^◌, ◌==◌, ℕ, suc, List, [], ◌∷◌, map, length, get_or, Some, sum_by, filter, arith, sym, ap, ◌∙◌, subst}
use Rattle.std.specs.Prelude.{Option}
use Rattle.std.specs.List.{All, AllByRecursion, flat_map, range_with_len}
use Rattle.std.specs.List.Sorted.{IsNonDecreasingBy}
use Rattle.std.proofs.lemmas.List.Elements.{All-filter, All-get_or}
use Rattle.std.proofs.lemmas.List.Folds.{flat_map-map}
use Rattle.std.proofs.lemmas.List.FromFn.{get_or-map-range_with_len, length-map-range_with_len}
use Rattle.sdr_base.specs.Blocks.{Block}
use Rattle.sdr_base.specs.Hashes.{HashItem, bucket_entries, item_addr, item_block}
use Rattle.sdr_base.specs.Linked.{first_of, last_of}
use Rattle.sdr_base.specs.Lists.{addr_of, element_block}
use Rattle.sdr_base.specs.Pools.{Pools}
use Rattle.sdr_base.specs.declared.kind.Kind.TheVariants as kinds
use Rattle.sdr_stands.proofs.GroupLemmas.{Rise, each_of, group, regrouped}
use Rattle.sdr_stands.specs.Rows.{bucket_row, element_row, hash_row, item_row}
use Rattle.sdr_stands.specs.Standing.{StandsForWhole}
use Rattle.sdr_model.specs.Fields.{FitsElement, FitsEntry, IsWord}
use Rattle.sdr_model.specs.HashSteps.{bucket_of}
use Rattle.sdr_model.specs.Hashes.{Hash}
use Rattle.sdr_model.specs.Valid.{IsValidHash}
use Rattle.sdr_model.specs.World.{World, thing_at}
use Rattle.sdr_model.specs.declared.things.HashEntry.{HashEntry}
use Rattle.sdr_model.specs.declared.things.SdrList.{SdrList}
use Rattle.sdr_model.specs.declared.things.Thing.TheVariants as things
use Rattle.audit_owners.proofs.LayoutLemmas.{word_laid}
use Rattle.audit_owners.specs.Linking.{AllStandAt, StandsAt}
use Rattle.audit_owners.specs.View.{View, view_in, word_of}
use Rattle.audit_world.proofs.BucketLemmas.{map_alike}
use Rattle.audit_world.specs.Told.{bucket_told, element_told, entry_told, hash_told, list_told}
use Rattle.sdr_audit.proofs.MembersLemmas.{bucket_members, list_members}
use Rattle.sdr_audit.proofs.ReadLemmas.{element_back, entry_back, told_rows}
use Rattle.sdr_audit.proofs.ToldStandLemmas.{inner_stand, own_stands}
use Rattle.sdr_audit.proofs.SoundStandLemmas.{All-part}

-- keys by rising buckets
rise : (n : ℕ) (es : List HashEntry) → IsNonDecreasingBy (bucket_of n) (map (λ (e : HashEntry). e.key) es) →
    Rise (λ (e : HashEntry). bucket_of n e.key) es
rise n [] sorted = tt
rise n (e ∷ es) sorted = (
  each_of (λ (e : HashEntry). e.key) (λ k. bucket_of n e.key ≤ bucket_of n k) es
      (λ j d l. sorted 0 (suc j) d (omega arith) (omega (arith, l))),
  rise n es (λ i j d le l. sorted (suc i) (suc j) d (omega (arith, le)) (omega (arith, l))),
)

below : (n : ℕ) → 1 ≤ n → (es : List HashEntry) → AllByRecursion (λ (e : HashEntry). bucket_of n e.key < n) es
below n some [] = tt
below n some (e ∷ es) = (omega (arith, some), below n some es)

-- what two functions give alike at each of so many numbers, they give of all
flat_alike : {X : Type 0} (f g : ℕ → List X) (n : ℕ) → ((k : ℕ) → k < n → f k ≡ g k) →
    flat_map f (range_with_len 0 n) ≡ flat_map g (range_with_len 0 n)
flat_alike {X} f g n alike =
    let id : List X → List X = λ l. l in
    sym (flat_map-map id f (range_with_len 0 n)) ∙ ap (flat_map id) (map_alike f g 0 n (λ k low less. alike k (omega (arith, less))))
    ∙ flat_map-map id g (range_with_len 0 n)

module _ (bytes : List ℕ) (w : World) (P : Pools) (s : StandsForWhole bytes w P) where
  abbrev heap : View
  heap = view_in bytes

  abbrev words : ℕ
  words = length bytes / 8

  pub list_is : (addr : ℕ) (list : SdrList) → thing_at w addr ≡ Some (things.List list) → IsWord list.user → All FitsElement list.elements →
      list_told heap words addr ≡ list
  list_is addr list is small fits =
      let rows = map element_row list.elements in
      let user =
      ap (λ (b : Option Block). word_of b 0) (own_stands heap w s.stands.blocks addr (things.List list) is)
      ∙ word_laid kinds.List (list.user ∷ length rows ∷ first_of addr_of 0 rows ∷ last_of addr_of 0 rows ∷ []) [] 0 (omega arith) small in
      let elements =
      ap (map (element_told heap)) (list_members bytes w P s addr list is)
      ∙ told_rows heap addr_of (element_block addr) element_row (element_told heap) FitsElement (element_back heap addr) 0 0
      list.elements fits
      (inner_stand heap w s.stands.blocks addr (things.List list) is) in
      λ i. record { user = user i; elements = elements i }

  module _ (addr : ℕ) (hash : Hash) (is : thing_at w addr ≡ Some (things.Hash hash)) (fits : All FitsEntry hash.entries) where
    abbrev buckets : List (List HashItem)
    buckets = (hash_row hash).buckets

    abbrev hash_words : List ℕ
    hash_words = hash.key_length ∷ length buckets ∷ sum_by length buckets ∷ map (first_of item_addr 0) buckets

    -- a word of its block
    pub hash_word : (n : ℕ) → n < 3 → get_or hash_words n 0 < 2 ^ 64 → word_of (heap.blocks addr) n ≡ get_or hash_words n 0
    hash_word n less small =
        ap (λ (b : Option Block). word_of b n) (own_stands heap w s.stands.blocks addr (things.Hash hash) is)
        ∙ word_laid kinds.Hash hash_words [] n (omega (arith, less)) small

    pub length-buckets : length buckets ≡ hash.buckets
    length-buckets = length-map-range_with_len (bucket_row hash) 0 hash.buckets

    -- what is told of a bucket are the entries of it
    pub bucket_is : (k : ℕ) → k < hash.buckets →
        bucket_told heap words addr k ≡ group (λ (e : HashEntry). bucket_of hash.buckets e.key) k hash.entries
    bucket_is k less =
        let mine : List HashEntry = filter (λ (e : HashEntry). bucket_of hash.buckets e.key == k) hash.entries in
        let each = All-part (StandsAt heap) bucket_entries buckets (inner_stand heap w s.stands.blocks addr (things.Hash hash) is) in
        let count = length-buckets in
        let at = get_or-map-range_with_len (bucket_row hash) 0 hash.buckets k k [] less (omega arith) in
        let here =
        subst (λ (items : List HashItem). AllStandAt heap (bucket_entries items)) at
        (All-get_or (λ items. AllStandAt heap (bucket_entries items)) buckets k [] (omega (arith, count, less)) each) in
        ap (map (entry_told heap)) (bucket_members bytes w P s addr hash is k less)
        ∙ told_rows heap item_addr item_block item_row (entry_told heap) FitsEntry (entry_back heap) 0 0 mine
        (All-filter (λ (e : HashEntry). bucket_of hash.buckets e.key == k) FitsEntry hash.entries fits) here

    pub hash_is : IsValidHash hash → hash_told heap words addr ≡ hash
    hash_is valid =
        let most = valid.key_length.1 in
        let few = valid.buckets.1 in
        let count = length-buckets in
        let key = hash_word 0 (omega arith) (omega (arith, most)) in
        let many = hash_word 1 (omega arith) (omega (arith, count, few)) ∙ count in
        let entries =
        ap (λ (n : ℕ). flat_map (bucket_told heap words addr) (range_with_len 0 n)) many
        ∙ flat_alike (bucket_told heap words addr)
        (λ k. group (λ (e : HashEntry). bucket_of hash.buckets e.key) k hash.entries) hash.buckets bucket_is
        ∙ regrouped (λ (e : HashEntry). bucket_of hash.buckets e.key) hash.buckets hash.entries
        (rise hash.buckets hash.entries valid.by_bucket)
        (below hash.buckets valid.buckets.0 hash.entries) in
        λ i. record { key_length = key i; buckets = many i; entries = entries i }
