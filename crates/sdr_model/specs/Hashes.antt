-- Hashes.
use Rattle.std.specs.Prelude.{ℕ, ◌%◌, List, sum, refl}
use Rattle.std.specs.Coded.{Coded, code_by, coded×, coded_ℕ, coded_list}
use Rattle.std.specs.List.Sorted.{IsNonDecreasingBy}
use Rattle.sdr_model.specs.declared.things.HashEntry.{HashEntry}

-- a hash: the bytes of a key, the count of its buckets, and the entries by bucket, the newest first in its bucket
pub record Hash : Type 0 where
  pub key_length : ℕ
  pub buckets : ℕ
  pub entries : List HashEntry

-- the entries stand in the order of their buckets, of which there are so many
abbrev pub AreByBucket : ℕ → List HashEntry → Type 0
AreByBucket buckets = IsNonDecreasingBy (λ e. sum e.key % buckets)

-- an entry as its parts
abbrev pub coded_entry : Coded HashEntry
coded_entry = code_by (ℕ × (List ℕ × ℕ)) (coded× coded_ℕ (coded× (coded_list coded_ℕ) coded_ℕ))
    (λ e. (e.block, (e.key, e.value))) (λ p. record { block = p.0; key = p.1.0; value = p.1.1 }) (λ _. refl)

-- a hash as its parts
abbrev pub coded_hash : Coded Hash
coded_hash = code_by (ℕ × (ℕ × List HashEntry)) (coded× coded_ℕ (coded× coded_ℕ (coded_list coded_entry)))
    (λ h. (h.key_length, (h.buckets, h.entries)))
    (λ p. record { key_length = p.0; buckets = p.1.0; entries = p.1.1 })
    (λ _. refl)
