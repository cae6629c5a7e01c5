-- The steps of hashes.
use Rattle.std.specs.Prelude.{ℕ, ◌%◌, ◌==◌, Bool, ◌||◌, List, [], ◌∷◌, ◌++◌, length, map, slice_get, sum, insert, remove, set, nat_eq, nat_lt, Option, None, Some, position}
use Rattle.std.specs.Cmp.Lexicographic.{pointwise}
use Rattle.std.specs.List.{prefix_len}
use Rattle.sdr_base.specs.declared.refusal.Refusal.TheVariants as refusals
use Rattle.sdr_model.specs.Hashes.{Hash}
use Rattle.sdr_model.specs.Limits.{longest_key, most_buckets}
use Rattle.sdr_model.specs.Steps.{Outcome, RefusedFor, RefusedIf, RefusedUnless, RefusedWithout, ReadsBytes, Does, CreatesThing, Takes, On, gave, with_thing, without_thing}
use Rattle.sdr_model.specs.Things.{hash_need, entry_need}
use Rattle.sdr_model.specs.World.{World, thing_at}
use Rattle.sdr_model.specs.declared.answer.Reply.TheVariants as replies
use Rattle.sdr_model.specs.declared.things.HashEntry.{HashEntry}
use Rattle.sdr_model.specs.declared.things.Thing.{Thing}
use Rattle.sdr_model.specs.declared.things.Thing.TheVariants as things

-- the hash, where the thing is one
abbrev pub as_hash : Option Thing → Option Hash
as_hash (Some (things.Hash hash)) = Some hash
as_hash thing = None

-- the bucket of a key
abbrev pub bucket_of : ℕ → List ℕ → ℕ
bucket_of buckets key = sum key % buckets

-- whether the entry has this key
abbrev pub has_key : List ℕ → HashEntry → Bool
has_key key e = pointwise nat_eq key e.key

-- where a new entry goes: behind those of lower buckets, before all others
abbrev pub bucket_place : Hash → List ℕ → ℕ
bucket_place hash key = prefix_len (λ e. nat_lt (bucket_of hash.buckets e.key) (bucket_of hash.buckets key)) hash.entries

-- no hash has keys of so many bytes
abbrev pub is_no_key_length : ℕ → Bool
is_no_key_length bytes = nat_lt bytes 1 || nat_lt longest_key bytes

-- no hash has so many buckets
abbrev pub is_no_count : ℕ → Bool
is_no_count buckets = nat_lt buckets 1 || nat_lt most_buckets buckets

-- a hash without entries is made
abbrev pub MakeHash : World → Outcome → ℕ → ℕ → Type 0
MakeHash w o key_length buckets =
    RefusedIf w o (is_no_key_length key_length) (refusals.BadKeyLength key_length longest_key)
    (RefusedIf w o (is_no_count buckets) (refusals.BadRow buckets most_buckets)
    (CreatesThing w o (hash_need buckets)
    (things.Hash (record { key_length = key_length; buckets = buckets; entries = [] }))))

-- The call is refused where the key hasn't the length of the hash's keys, and else goes on.
abbrev pub OnHash : World → Outcome → ℕ → List ℕ → (Hash → Type 0) → Type 0
OnHash w o addr key goes =
    On w o addr (as_hash (thing_at w addr)) (λ hash.
    RefusedUnless w o (length key == hash.key_length) (refusals.BadKeyLength (length key) hash.key_length)
    (goes hash))

-- The call is refused where the hash has no such key, and else goes on with the place of its entry.
abbrev pub OnKey : World → Outcome → ℕ → List ℕ → (Hash → ℕ → Type 0) → Type 0
OnKey w o addr key goes =
    OnHash w o addr key (λ hash.
    RefusedWithout w o (position (has_key key) hash.entries) refusals.NotFound (goes hash))

-- the value of an entry, 0 where there is none
abbrev pub value_of : Option HashEntry → ℕ
value_of None = 0
value_of (Some e) = e.value

-- the value of the entry at a place, 0 where there is none
abbrev pub value_at : List HashEntry → ℕ → ℕ
value_at entries place = value_of (slice_get entries place)

-- the address of an entry, 0 where there is none
abbrev pub entry_addr_or_zero : Option HashEntry → ℕ
entry_addr_or_zero None = 0
entry_addr_or_zero (Some e) = e.block

-- the address of the entry at a place, 0 where there is none
abbrev pub entry_addr : List HashEntry → ℕ → ℕ
entry_addr entries place = entry_addr_or_zero (slice_get entries place)

-- a new key has this value, in front of its bucket
abbrev pub HashInsert : World → Outcome → ℕ → List ℕ → ℕ → Type 0
HashInsert w o addr key value =
    OnHash w o addr key (λ hash.
    RefusedFor w o (position (has_key key) hash.entries) (λ place. refusals.KeyTaken (value_at hash.entries place))
    (Takes w o (entry_need (length key))
    (λ block. with_thing w addr (things.Hash (record hash {
      entries =
          insert hash.entries (bucket_place hash key) (record { block = block; key = key; value = value });
    })))
    (λ block. replies.Done)))

-- the key's value is given
abbrev pub HashRetrieve : World → Outcome → ℕ → List ℕ → Type 0
HashRetrieve w o addr key = OnKey w o addr key (λ hash place. ReadsBytes w o [] (replies.Value (value_at hash.entries place)))

-- the key's value is set
abbrev pub HashRevise : World → Outcome → ℕ → List ℕ → ℕ → Type 0
HashRevise w o addr key value =
    OnKey w o addr key (λ hash place.
    Does o [] (with_thing w addr (things.Hash (record hash {
      entries =
          set hash.entries place (record { block = entry_addr hash.entries place; key = key; value = value });
    }))) replies.Done)

-- the key goes
abbrev pub HashRemove : World → Outcome → ℕ → List ℕ → Type 0
HashRemove w o addr key =
    OnKey w o addr key (λ hash place.
    Does o (gave (entry_addr hash.entries place ∷ []))
    (with_thing w addr (things.Hash (record hash { entries = remove hash.entries place }))) replies.Done)

-- the count of the keys is given
abbrev pub HashCount : World → Outcome → ℕ → Type 0
HashCount w o addr = On w o addr (as_hash (thing_at w addr)) (λ hash. ReadsBytes w o [] (replies.Value (length hash.entries)))

-- the hash goes with its entries, which are given back by bucket, front to back, before it
abbrev pub HashDestroy : World → Outcome → ℕ → Type 0
HashDestroy w o addr = On w o addr (as_hash (thing_at w addr)) (λ hash.
    Does o (gave (map (λ e. e.block) hash.entries ++ addr ∷ [])) (without_thing w addr) replies.Done)
