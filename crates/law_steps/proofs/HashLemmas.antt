-- The keys and the blocks of a hash, after an entry comes, goes or has another value.
use Rattle.std.proofs.Common.{◌≡◌, ℕ, ◌+◌, ◌<◌, List, [], ◌∷◌, Some, None, map, length, get_or, nat_eq, nat_lt, sym, ap, ◌∙◌, subst, arith, position}
use Rattle.std.specs.Cmp.{IsEquivalence, nat_eq_equiv}
use Rattle.std.specs.Cmp.Lexicographic.{lists_equiv, pointwise, same_text}
use Rattle.std.specs.List.{IsDistinct, count_by, insert, prefix_len, remove, sum_by}
use Rattle.std.specs.List.Sorted.{IsNonDecreasingBy}
use Rattle.std.specs.Prelude.{All}
use Rattle.std.proofs.lemmas.List.{length-map}
use Rattle.std.proofs.lemmas.List.Quantifiers.{position-Some}
use Rattle.std.proofs.lemmas.List.Sums.{prefix_len-le-length, sum_by-cons, sum_by-insert, sum_by-remove}
use Rattle.std.proofs.lemmas.Option.{slice_get-get_or}
use Rattle.law_steps.proofs.EditLemmas.{All-insert, All-remove, IsDistinct-insert, IsDistinct-remove, IsNonDecreasingBy-insert_behind, IsNonDecreasingBy-remove, count_by-map, map-insert, map-remove, no_position, prefix_len-map}
use Rattle.sdr_model.proofs.SumLemmas.{sum_by-map}
use Rattle.sdr_base.specs.declared.kind.Kind.TheVariants as kinds
use Rattle.sdr_model.specs.HashSteps.{entry_addr_or_zero, bucket_of, bucket_place, entry_addr, has_key}
use Rattle.sdr_model.specs.Hashes.{Hash}
use Rattle.sdr_model.specs.Things.{entry_block, entry_need, own_block}
use Rattle.sdr_model.specs.Valid.{IsValidHash, keys_of}
use Rattle.sdr_model.specs.declared.things.UsedBlock.{UsedBlock}
use Rattle.sdr_model.specs.declared.things.HashEntry.{HashEntry}
use Rattle.sdr_model.specs.declared.things.Thing.TheVariants as things

-- texts are compared by an equivalence
pub texts : IsEquivalence (pointwise nat_eq)
texts = lists_equiv nat_eq_equiv

-- an entry of no hash
pub no_entry : HashEntry
no_entry = record { block = 0; key = []; value = 0 }

key_of : HashEntry → List ℕ
key_of e = e.key

-- the block of an entry at an address, whose key has so many bytes
abbrev pub entry_block_at : ℕ → ℕ → UsedBlock
entry_block_at key_length addr = record { addr = addr; kind = kinds.HashEntry; bytes = entry_need key_length }

-- a hash stays valid with keys of its length that differ and stand by bucket
module _ (hash : Hash) (entries : List HashEntry) where
  valid_with : IsValidHash hash → All (λ key. length key ≡ hash.key_length) (map (λ (e : HashEntry). e.key) entries)
      → IsDistinct (pointwise nat_eq) (map (λ (e : HashEntry). e.key) entries)
      → IsNonDecreasingBy (bucket_of hash.buckets) (map (λ (e : HashEntry). e.key) entries)
      → IsValidHash (record hash { entries = entries })
  valid_with valid keys distinct rises =
      record {
        key_length = valid.key_length;
        buckets = valid.buckets;
        keys = keys;
        distinct_keys =
            distinct;
        by_bucket = rises;
      }

  -- as one has with the same keys
  pub same_keys : map (λ (e : HashEntry). e.key) entries ≡ keys_of hash → IsValidHash hash
      → IsValidHash (record hash { entries = entries })
  same_keys same valid =
      valid_with valid (subst (All (λ key. length key ≡ hash.key_length)) (sym same) valid.keys)
      (subst (IsDistinct (pointwise nat_eq)) (sym same) valid.distinct_keys)
      (subst (IsNonDecreasingBy (bucket_of hash.buckets)) (sym same) valid.by_bucket)

module _ (hash : Hash) where
  -- a new key in front of its bucket
  pub valid_inserted : (key : List ℕ) (e : HashEntry) → e.key ≡ key → length key ≡ hash.key_length
      → position (has_key key) hash.entries ≡ None
      → IsValidHash hash → IsValidHash (record hash { entries = insert hash.entries (bucket_place hash key) e })
  valid_inserted key e is long new valid =
      let at = bucket_place hash key in
      let keys : map (λ (e : HashEntry). e.key) (insert hash.entries at e) ≡ insert (keys_of hash) at key =
      map-insert (λ (e : HashEntry). e.key) hash.entries at e ∙ ap (insert (keys_of hash) at) is in
      let place : at ≡ prefix_len (λ k. nat_lt (bucket_of hash.buckets k) (bucket_of hash.buckets key)) (keys_of hash) =
      sym (prefix_len-map (λ (e : HashEntry). e.key)
      (λ k. nat_lt (bucket_of hash.buckets k) (bucket_of hash.buckets key)) hash.entries) in
      let none : count_by (pointwise nat_eq key) (keys_of hash) ≡ 0 =
      count_by-map (λ (e : HashEntry). e.key) (pointwise nat_eq key) hash.entries
      ∙ no_position (has_key key) hash.entries new in
      valid_with hash (insert hash.entries at e) valid
      (subst (All (λ key. length key ≡ hash.key_length)) (sym keys)
      (All-insert (λ key. length key ≡ hash.key_length) (keys_of hash) at key
      (omega (
        arith,
        place,
        prefix_len-le-length (λ k. nat_lt (bucket_of hash.buckets k) (bucket_of hash.buckets key))
            (keys_of hash),
      )) valid.keys long))
      (subst (IsDistinct (pointwise nat_eq)) (sym keys)
      (IsDistinct-insert texts (keys_of hash) at key none valid.distinct_keys))
      (subst (IsNonDecreasingBy (bucket_of hash.buckets)) (sym (keys ∙ ap (λ i. insert (keys_of hash) i key) place))
      (IsNonDecreasingBy-insert_behind (bucket_of hash.buckets) (keys_of hash) key valid.by_bucket))

  -- a key that goes
  pub valid_removed : (place : ℕ) → place < length hash.entries → IsValidHash hash
      → IsValidHash (record hash { entries = remove hash.entries place })
  valid_removed place within valid =
      let keys : map (λ (e : HashEntry). e.key) (remove hash.entries place) ≡ remove (keys_of hash) place =
      map-remove (λ (e : HashEntry). e.key) hash.entries place in
      let inside : place < length (keys_of hash) =
      omega (arith, within, length-map hash.entries (λ (e : HashEntry). e.key)) in
      valid_with hash (remove hash.entries place) valid
      (subst (All (λ key. length key ≡ hash.key_length)) (sym keys)
      (All-remove (λ key. length key ≡ hash.key_length) (keys_of hash) place inside valid.keys))
      (subst (IsDistinct (pointwise nat_eq)) (sym keys)
      (IsDistinct-remove texts (keys_of hash) place [] inside valid.distinct_keys))
      (subst (IsNonDecreasingBy (bucket_of hash.buckets)) (sym keys)
      (IsNonDecreasingBy-remove (bucket_of hash.buckets) (keys_of hash) place inside valid.by_bucket))

  -- the entry at the place of a key
  pub entry_there : (key : List ℕ) (place : ℕ) → position (has_key key) hash.entries ≡ Some place
      → (place < length hash.entries) × (key ≡ (get_or hash.entries place no_entry).key) ×
      (entry_addr hash.entries place ≡ (get_or hash.entries place no_entry).block)
  entry_there key place is =
      let stands = position-Some (has_key key) hash.entries place no_entry is in (
        stands.0,
        same_text key _ (sym stands.1),
        ap entry_addr_or_zero
            (slice_get-get_or hash.entries place no_entry stands.0),
      )

  -- the blocks of a hash, with one entry more or one less
  module _ (measure : UsedBlock → ℕ) (addr : ℕ) where
    abbrev hash_sum : List HashEntry → ℕ
    hash_sum entries = sum_by measure (own_block addr (things.Hash hash) ∷ map entry_block entries)

    pub hash_sum-insert : (place : ℕ) (e : HashEntry)
        → hash_sum (insert hash.entries place e) ≡ hash_sum hash.entries + measure (entry_block e)
    hash_sum-insert place e =
        omega (
          arith,
          sum_by-cons measure (own_block addr (things.Hash hash)) (map entry_block (insert hash.entries place e)),
          sum_by-cons measure (own_block addr (things.Hash hash)) (map entry_block hash.entries),
          sum_by-map measure entry_block (insert hash.entries place e),
          sum_by-map measure entry_block hash.entries,
          sum_by-insert (λ e. measure (entry_block e)) hash.entries place e,
        )

    pub hash_sum-remove : (place : ℕ) → place < length hash.entries
        → hash_sum (remove hash.entries place) + measure
        (entry_block (get_or hash.entries place no_entry)) ≡ hash_sum hash.entries
    hash_sum-remove place within =
        omega (
          arith,
          sum_by-cons measure (own_block addr (things.Hash hash)) (map entry_block (remove hash.entries place)),
          sum_by-cons measure (own_block addr (things.Hash hash)) (map entry_block hash.entries),
          sum_by-map measure entry_block (remove hash.entries place),
          sum_by-map measure entry_block hash.entries,
          sum_by-remove (λ e. measure (entry_block e)) hash.entries place no_entry within,
        )
