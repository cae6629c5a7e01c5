-- What a change of a hash leaves.
use Rattle.std.specs.Prelude.{◌≡◌, ◌<◌, ◌+◌, ℕ, List, [], length, insert, nat_lt, position, Option, None, Some, Result, Err, ◌==◌, if◌then◌else◌}
use Rattle.std.specs.List.{prefix_len}
use Rattle.std.specs.Option.{ok_or}
use Rattle.sdr_base.specs.declared.refusal.Refusal.{Refusal}
use Rattle.sdr_base.specs.declared.refusal.Refusal.TheVariants as refusals
use Rattle.sdr_model.specs.Dry.{with_taken, next_addr}
use Rattle.sdr_model.specs.HashSteps.{bucket_of, bucket_place, has_key}
use Rattle.sdr_model.specs.Hashes.{Hash}
use Rattle.sdr_model.specs.Steps.{with_thing}
use Rattle.sdr_model.specs.World.{World}
use Rattle.sdr_model.specs.declared.things.HashEntry.{HashEntry}
use Rattle.sdr_model.specs.declared.things.Thing.TheVariants as things

-- the hash with an entry in front of its bucket
abbrev pub with_entry : Hash → HashEntry → Hash
with_entry hash entry = record hash { entries = insert hash.entries (bucket_place hash entry.key) entry }

-- the place of the first entry that is in no lower bucket than this
abbrev pub bucket_start : Hash → ℕ → ℕ
bucket_start hash bucket = prefix_len (λ e. nat_lt (bucket_of hash.buckets e.key) bucket) hash.entries

-- the place of a key's entry, or why there is none
abbrev pub place_in : Hash → List ℕ → Result ℕ Refusal
place_in hash key =
    if length key == hash.key_length then ok_or (position (has_key key) hash.entries) refusals.NotFound
    else Err (refusals.BadKeyLength (length key) hash.key_length)

-- the hash is there
abbrev pub IsThere : Option Hash → Type 0
IsThere None = ⊥
IsThere (Some hash) = Unit {0}

-- a new entry stands in the hash, in front of its bucket, its block is counted, and no bytes are shown
abbrev pub PutsEntry : Option Hash → ℕ → HashEntry → World → World → Type 0
PutsEntry None addr entry w w' = ⊥
PutsEntry (Some hash) addr entry w w' =
    w' ≡ record (with_thing w addr (things.Hash (with_entry hash entry))) { shown = []; taken = w.taken + 1 }

-- a new entry of this key and value was made in the hash
abbrev pub InsertsEntry : Option Hash → ℕ → List ℕ → ℕ → World → World → Type 0
InsertsEntry None addr key value w w' = ⊥
InsertsEntry (Some hash) addr key value w w' =
    let block = next_addr w.taken in
    let entry : HashEntry = record { block = block; key = key; value = value } in
    w' ≡ with_taken (with_thing w addr (things.Hash (with_entry hash entry))) block

-- the hash is there, and has an entry at the place
abbrev pub HasEntry : Option Hash → ℕ → Type 0
HasEntry None place = ⊥
HasEntry (Some hash) place = place < length hash.entries

-- the hash is there, and has a key's entry at the place
abbrev pub HasKey : Option Hash → List ℕ → ℕ → Type 0
HasKey None key place = ⊥
HasKey (Some hash) key place = position (has_key key) hash.entries ≡ Some place

-- the hash is another
abbrev pub SetsHash : Option Hash → ℕ → (Hash → Hash) → World → World → Type 0
SetsHash None addr change w w' = ⊥
SetsHash (Some hash) addr change w w' = w' ≡ record (with_thing w addr (things.Hash (change hash))) { shown = [] }
