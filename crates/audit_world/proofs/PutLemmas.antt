-- The entries of a hash, one bucket after another.
use Rattle.std.proofs.Common.{◌≡◌, ◌+◌, ◌∙◌, ℕ, List, [], ◌∷◌, ◌++◌, ap, append-nil, arith}
use Rattle.std.specs.List.{flat_map, range_with_len}
use Rattle.std.proofs.Math.ListN.{get_or-map}
use Rattle.std.proofs.lemmas.Grind.{flat_map-append}
use Rattle.std.proofs.lemmas.List.{length-map}
use Rattle.audit_owners.proofs.PlacesLemmas.{range_more}
use Rattle.sdr_model.specs.HashSteps.{bucket_of}
use Rattle.sdr_model.specs.Hashes.{AreByBucket, Hash}
use Rattle.sdr_model.specs.Valid.{IsValidHash}
use Rattle.sdr_model.specs.declared.things.HashEntry.{HashEntry}
use Rattle.audit_owners.specs.View.{View}
use Rattle.audit_world.specs.Told.{bucket_told, entries_up_to}

-- one bucket more
pub entries_more : (heap : View) (words addr n : ℕ) →
    entries_up_to heap words addr (n + 1) ≡ entries_up_to heap words addr n ++ bucket_told heap words addr n
entries_more heap words addr n =
    let f = bucket_told heap words addr in
    ap (λ (r : List ℕ). flat_map f r) (range_more n) ∙ flat_map-append f (range_with_len 0 n) (n ∷ [])
    ∙ ap (λ (l : List HashEntry). flat_map f (range_with_len 0 n) ++ l) (append-nil (f n))

-- the entries of a hash that keeps the limits stand in the order of their buckets
pub by_bucket : (hash : Hash) → IsValidHash hash → AreByBucket hash.buckets hash.entries
by_bucket hash valid i j d upto within =
    let key : HashEntry → List ℕ = λ e. e.key in
    let count = length-map hash.entries key in
    let low = ap (bucket_of hash.buckets) (get_or-map key hash.entries i d) in
    let high = ap (bucket_of hash.buckets) (get_or-map key hash.entries j d) in
    let rises = valid.by_bucket i j d.key upto (omega (arith, within, count)) in
    omega (arith, rises, low, high)
