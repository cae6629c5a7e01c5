-- Lines that are put into a buffer, or changed in it.
use Rattle.std.proofs.Common.{◌≡◌, ◌≤◌, ◌<◌, ℕ, zero, suc, List, [], ◌∷◌, ◌++◌, length, get_or, arith, length-append}
use Rattle.std.specs.Prelude.{slice_set, IsPermutation}
use Rattle.std.specs.List.{All}
use Rattle.std.proofs.lemmas.List.Sorted.{All-permutation}
use Rattle.sdr_log.specs.Log.{AreLines}
use Rattle.sdr_log.specs.declared.record.Record.{Record}
use Rattle.sdr_log.proofs.RecordsLemmas.{AreLines-push}
use Rattle.sdr_image.specs.Buffer.{IsBuffer}

-- one line more
pub push_keeps : (olds news : List Record) (r s : Record) (room room' more more' : ℕ) → IsBuffer olds news room room' →
    length olds < 64 → length r.bytes ≡ 64 → length s.bytes ≡ 64 → 64 ≤ more → 64 ≤ more' →
    IsBuffer (olds ++ r ∷ []) (news ++ s ∷ []) more more'
push_keeps olds news r s room room' more more' b few long long' le le' = record {
  long = omega (arith, b.long, length-append olds (r ∷ []), length-append news (s ∷ []));
  few = omega (arith, few, length-append olds (r ∷ []));
  whole = AreLines-push olds r b.whole long;
  whole' = AreLines-push news s b.whole' long';
  reserved = le;
  reserved' = le';
}

-- whole lines in another order
pub AreLines-permutation : (a b : List Record) → IsPermutation a b → AreLines a → AreLines b
AreLines-permutation a b p whole = back b (All-permutation (λ (r : Record). length r.bytes ≡ 64) a b p (forth a whole))
  where
    forth : (rs : List Record) → AreLines rs → All (λ (r : Record). length r.bytes ≡ 64) rs
    forth [] whole k d lt = absurd (omega arith)
    forth (r ∷ rs) whole zero d lt = whole.0
    forth (r ∷ rs) whole (suc k) d lt = forth rs whole.1 k d (omega (arith, lt))

    back : (rs : List Record) → All (λ (r : Record). length r.bytes ≡ 64) rs → AreLines rs
    back [] all = tt
    back (r ∷ rs) all = (all 0 r (omega arith), back rs (λ k d lt. all (suc k) d (omega (arith, lt))))

-- the line at a place is whole
pub whole_at : (rs : List Record) (place : ℕ) (d : Record) → AreLines rs → place < length rs →
    length (get_or rs place d).bytes ≡ 64
whole_at [] place d whole lt = absurd (omega (arith, lt))
whole_at (r ∷ rs) zero d whole lt = whole.0
whole_at (r ∷ rs) (suc place) d whole lt = whole_at rs place d whole.1 (omega (arith, lt))

-- a line that is changed at its place
pub AreLines-set : (rs : List Record) (place : ℕ) (r : Record) → AreLines rs → length r.bytes ≡ 64 →
    AreLines (slice_set rs place r)
AreLines-set [] place r whole long = tt
AreLines-set (s ∷ rs) zero r whole long = (long, whole.1)
AreLines-set (s ∷ rs) (suc place) r whole long = (whole.0, AreLines-set rs place r whole.1 long)
