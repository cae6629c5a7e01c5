-- A hash of the machine as its buckets, and what a change of one entry makes of them.
use Rattle.std.proofs.Common.{◌≡◌, ◌≢◌, ◌∙◌, ◌+◌, ◌<◌, ◌≤◌, ◌==◌, ◌++◌, ℕ, zero, suc, List, [], ◌∷◌, Bool, true, false, None, find, length, map, take, drop, set, get_or, sum, refl, sym, ap, arith}
use Rattle.std.proofs.lemmas.Bool.{eqb-false, eqb-true}
use Rattle.std.proofs.lemmas.Grind.{get_or-set_at}
use Rattle.std.proofs.lemmas.List.{ext_get_or, get_or-set_other, length-set, map-append, take-append-drop}
use Rattle.std.proofs.lemmas.List.FromFn.{get_or-map-range_with_len, length-map-range_with_len}
use Rattle.std.proofs.lemmas.Nat.{mod_below}
use Rattle.std.specs.Cmp.Lexicographic.{same_text}
use Rattle.std.specs.List.{insert, range_with_len, remove}
use Rattle.std.specs.Option.{option_map}
use Rattle.std.specs.Prelude.{replicate}
use Rattle.sdr_stands.specs.Rows.{bucket_row, hash_row, item_row}
use Rattle.sdr_base.specs.Hashes.{HashItem}
use Rattle.sdr_hash.proofs.BucketLemmas.{removed_at, revised_at}
use Rattle.sdr_hash.specs.Buckets as blocks
use Rattle.sdr_hash.specs.Buckets.{item_of, items_by, removed, revised, with_item, with_items, with_value, without_key}
use Rattle.sdr_hash.specs.Calls.{empty_hash}
use Rattle.sdr_model.specs.HashChanges.{with_entry}
use Rattle.sdr_model.specs.HashSteps.{bucket_of, bucket_place, has_key}
use Rattle.sdr_model.specs.Hashes.{Hash}
use Rattle.sdr_model.specs.declared.things.HashEntry.{HashEntry}
use Rattle.step_keyed.proofs.BucketLemmas.{AreIn, IsKeyed, found_in, in_bucket, none_in_front, others_stay, set_parted, there_changed}

-- a hash without entries has empty buckets
pub empty_is : (key_length buckets : ℕ)
    → empty_hash key_length buckets ≡ hash_row (record { key_length = key_length; buckets = buckets; entries = [] })
empty_is key_length buckets =
    ap (λ (bs : List (List HashItem)). record { key_length = key_length; buckets = bs }) (none 0 buckets)
  where
    hash : Hash
    hash = record { key_length = key_length; buckets = buckets; entries = [] }

    none : (from n : ℕ) → replicate n [] ≡ map (bucket_row hash) (range_with_len from n)
    none from zero = refl
    none from (suc n) = ap (λ (bs : List (List HashItem)). [] ∷ bs) (none (from + 1) n)

-- a hash of some buckets, and a key
module _ (hash : Hash) (key : List ℕ) (some : 1 ≤ hash.buckets) where
  abbrev place_of : ℕ
  place_of = bucket_of hash.buckets key

  -- its entries in the bucket of the key
  pub items_are : items_by (hash_row hash) key ≡ bucket_row hash place_of
  items_are =
      let long = length-map-range_with_len (bucket_row hash) 0 hash.buckets in
      let below : place_of < hash.buckets = mod_below (sum key) hash.buckets (omega (arith, some)) in
      let start : 0 + place_of ≡ place_of = omega arith in
      ap (λ n. get_or (map (bucket_row hash) (range_with_len 0 hash.buckets)) (bucket_of n key) []) long
      ∙ get_or-map-range_with_len (bucket_row hash) 0 hash.buckets place_of place_of [] below start

  -- the entry of the key
  pub item_is : item_of (hash_row hash) key ≡ option_map item_row (find (has_key key) hash.entries)
  item_is = ap (find (blocks.item_has_key key)) items_are ∙ found_in hash.buckets key hash.entries

  -- with other entries, of which those in other buckets stay
  with_bucket_is : (entries : List HashEntry)
      → ((other : ℕ) → other ≢ place_of → in_bucket hash.buckets other entries ≡ in_bucket hash.buckets other hash.entries)
      → hash_row (record hash { entries = entries }) ≡ with_items (hash_row hash) key
      (map item_row (in_bucket hash.buckets place_of entries))
  with_bucket_is entries stay =
      ap (λ (bs : List (List HashItem)). record { key_length = hash.key_length; buckets = bs })
      (ext_get_or [] now (set was place_of here) (omega (arith, long_now, long, length-set was place_of here)) each
      ∙ ap (λ n. set was (bucket_of n key) here) (sym long))
    where
      was : List (List HashItem)
      was = map (bucket_row hash) (range_with_len 0 hash.buckets)

      other : Hash
      other = record hash { entries = entries }

      now : List (List HashItem)
      now = map (bucket_row other) (range_with_len 0 hash.buckets)

      here : List HashItem
      here = bucket_row other place_of

      long : length was ≡ hash.buckets
      long = length-map-range_with_len (bucket_row hash) 0 hash.buckets

      long_now : length now ≡ hash.buckets
      long_now = length-map-range_with_len (bucket_row other) 0 hash.buckets

      step : (i : ℕ) → i < hash.buckets → (b : Bool) → (i == place_of) ≡ b
          → bucket_row other i ≡ get_or (set was place_of here) i []
      step i inside true is =
          let same = eqb-true i place_of is in
          ap (bucket_row other) same ∙ sym (get_or-set_at was place_of i here [] same (omega (arith, long, inside, same)))
      step i inside false is =
          let apart = eqb-false i place_of is in
          let start : 0 + i ≡ i = omega arith in
          ap (map item_row) (stay i apart)
          ∙ sym (get_or-set_other was place_of i here [] apart
          ∙ get_or-map-range_with_len (bucket_row hash) 0 hash.buckets i i [] inside start)

      each : (i : ℕ) → i < length now → get_or now i [] ≡ get_or (set was place_of here) i []
      each i within =
          let inside : i < hash.buckets = omega (arith, within, long_now) in
          let start : 0 + i ≡ i = omega arith in
          get_or-map-range_with_len (bucket_row other) 0 hash.buckets i i [] inside start
          ∙ step i inside (i == place_of) refl

  -- with other entries of the key's bucket between a front and a back
  with_middle_is : (front mid mid' back : List HashEntry) → hash.entries ≡ front ++ (mid ++ back)
      → AreIn hash.buckets place_of mid → AreIn hash.buckets place_of mid' → (items : List HashItem)
      → map item_row (in_bucket hash.buckets place_of (front ++ (mid' ++ back))) ≡ items
      → hash_row (record hash { entries = front ++ (mid' ++ back) }) ≡ with_items (hash_row hash) key items
  with_middle_is front mid mid' back whole was is items come =
      with_bucket_is (front ++ (mid' ++ back))
      (λ other apart. others_stay hash.buckets place_of other front mid mid' back was is apart
      ∙ ap (in_bucket hash.buckets other) (sym whole))
      ∙ ap (with_items (hash_row hash) key) come

  -- a new entry stands in front of its bucket
  pub inserted_is : (entry : HashEntry) → entry.key ≡ key
      → hash_row (with_entry hash entry) ≡ with_item (hash_row hash) (item_row entry)
  inserted_is entry keyed =
      ap (λ k. hash_row (record hash { entries = insert hash.entries (bucket_place hash k) entry })) keyed
      ∙ with_middle_is front [] (entry ∷ []) back (sym (take-append-drop (bucket_place hash key) hash.entries)) tt
      (ap (bucket_of hash.buckets) keyed, tt) (item_row entry ∷ items_by (hash_row hash) key) come
      ∙ ap (λ k. with_items (hash_row hash) k (item_row entry ∷ items_by (hash_row hash) k)) (sym keyed)
    where
      front : List HashEntry
      front = take (bucket_place hash key) hash.entries

      back : List HashEntry
      back = drop (bucket_place hash key) hash.entries

      here : List HashEntry → List HashEntry
      here = in_bucket hash.buckets place_of

      empty : here front ≡ []
      empty = none_in_front hash.buckets place_of hash.entries

      was : here hash.entries ≡ here back
      was =
          ap here (sym (take-append-drop (bucket_place hash key) hash.entries))
          ∙ there_changed hash.buckets place_of front [] back tt
          ∙ ap (λ (xs : List HashEntry). xs ++ here back) empty

      come : map item_row (here (front ++ ((entry ∷ []) ++ back))) ≡ item_row entry ∷ items_by (hash_row hash) key
      come =
          ap (map item_row)
          (there_changed hash.buckets place_of front (entry ∷ []) back (ap (bucket_of hash.buckets) keyed, tt)
          ∙ ap (λ (xs : List HashEntry). xs ++ (entry ∷ here back)) empty
          ∙ ap (λ (xs : List HashEntry). entry ∷ xs) (sym was))
          ∙ ap (λ (items : List HashItem). item_row entry ∷ items) (sym items_are)

  -- the place of the key, with what stands before and behind it in its bucket
  module _ (place : ℕ) (k : IsKeyed hash key place) where
    abbrev before : List HashEntry
    before = take place hash.entries

    abbrev behind : List HashEntry
    behind = drop (suc place) hash.entries

    abbrev its : List HashEntry → List HashItem
    its es = map item_row (in_bucket hash.buckets place_of es)

    same_key : key ≡ k.entry.key
    same_key = same_text key k.entry.key (sym k.keyed)

    in_its : AreIn hash.buckets place_of (k.entry ∷ [])
    in_its = (ap (bucket_of hash.buckets) (sym same_key), tt)

    -- none before it has the key
    none_there : find (blocks.item_has_key key) (its before) ≡ None
    none_there = found_in hash.buckets key before ∙ ap (option_map item_row) k.none

    -- its bucket, with others in its place
    its_are : (mid : List HashEntry) → AreIn hash.buckets place_of mid
        → its (before ++ (mid ++ behind)) ≡ its before ++ (map item_row mid ++ its behind)
    its_are mid all =
        ap (map item_row) (there_changed hash.buckets place_of before mid behind all)
        ∙ map-append item_row (in_bucket hash.buckets place_of before) (mid ++ in_bucket hash.buckets place_of behind)
        ∙ ap (λ (xs : List HashItem). its before ++ xs)
        (map-append item_row mid (in_bucket hash.buckets place_of behind))

    its_were : items_by (hash_row hash) key ≡ its before ++ (item_row k.entry ∷ its behind)
    its_were = items_are ∙ ap its k.whole ∙ its_are (k.entry ∷ []) in_its

    -- the key has another value
    pub revised_is : (value : ℕ)
        → hash_row (record hash {
          entries = set hash.entries place (record { block = k.entry.block; key = key; value = value });
        }) ≡ with_value (hash_row hash) key value
    revised_is value =
        ap (λ (es : List HashEntry). hash_row (record hash { entries = es })) (set_parted hash.entries place now k.inside)
        ∙ with_middle_is before (k.entry ∷ []) (now ∷ []) behind k.whole in_its (refl, tt)
        (revised key value (items_by (hash_row hash) key)) come
      where
        now : HashEntry
        now = record { block = k.entry.block; key = key; value = value }

        other : item_row now ≡ record (item_row k.entry) { value = value }
        other = λ i. record { addr = k.entry.block; value = value; key = same_key i }

        come : its (before ++ ((now ∷ []) ++ behind)) ≡ revised key value (items_by (hash_row hash) key)
        come =
            its_are (now ∷ []) (refl, tt)
            ∙ ap (λ (item : HashItem). its before ++ (item ∷ its behind)) other
            ∙ sym (ap (revised key value) its_were
            ∙ revised_at key value (its before) (item_row k.entry) (its behind) none_there k.keyed)

    -- the key is gone
    pub removed_is : hash_row (record hash { entries = remove hash.entries place }) ≡ without_key (hash_row hash) key
    removed_is =
        with_middle_is before (k.entry ∷ []) [] behind k.whole in_its tt (removed key (items_by (hash_row hash) key))
        (its_are [] tt
        ∙ sym (ap (removed key) its_were ∙ removed_at key (its before) (item_row k.entry) (its behind) none_there k.keyed))
