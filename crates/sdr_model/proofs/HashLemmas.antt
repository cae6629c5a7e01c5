-- Entries in the order of their buckets, found and changed.
use Rattle.std.proofs.Common.{◌≡◌, ◌+◌, ◌≤◌, ◌<◌, ◌≢◌, ℕ, Bool, true, false, cond, List, [], ◌∷◌, Some, None, length, get_or, insert, remove, set, sym, ◌∙◌, ap, refl, arith, eqb, ltb, get_or-set_other}
use Rattle.std.proofs.lemmas.Bool.{eqb-true, eqb-false, le-ltb, lt-ltb, ltb-true, ltb-false}
use Rattle.std.proofs.lemmas.Grind.{get_or-set_at}
use Rattle.std.proofs.lemmas.List.{length-set}
use Rattle.std.proofs.lemmas.List.Sorted.{IsNonDecreasingBy-insert}
use Rattle.std.proofs.lemmas.List.Sums.{prefix_len_is, prefix_len_passes, prefix_len_stops, prefix_len-le-length, position_or_len_is}
use Rattle.std.proofs.lemmas.List.Edits.{get_or-remove_below, get_or-remove_above, length-remove}
use Rattle.std.specs.Cmp.Lexicographic.{same_text}
use Rattle.std.specs.List.{position, position_or_len, prefix_len}
use Rattle.std.specs.List.Sorted.{IsNonDecreasingBy, IsPartitionPoint}
use Rattle.sdr_model.proofs.Cases.{by_test}
use Rattle.sdr_model.specs.HashChanges.{bucket_start}
use Rattle.sdr_model.specs.HashSteps.{bucket_of, has_key}
use Rattle.sdr_model.specs.Hashes.{Hash, AreByBucket}
use Rattle.sdr_model.specs.declared.things.HashEntry.{HashEntry}

-- what passes a test stands before what fails it, and the place between them is the count of those that pass
pub prefix_len-point : {X : Type 0} (p : X → Bool) (xs : List X) (i : ℕ) → i ≤ length xs
    → IsPartitionPoint (λ y. p y ≡ true) (λ y. p y ≡ false) xs i → prefix_len p xs ≡ i
prefix_len-point p [] i within point = omega (arith, within)
prefix_len-point p (x ∷ xs) i within point =
    prefix_len_is p (x ∷ xs) i x within
    (λ k before. point.0 k x (omega arith) before)
    (λ inside. point.1 i x (omega arith) inside)

-- an item in front of those that aren't lower keeps the order
pub ordered-insert : {X : Type 0} (n : X → ℕ) (xs : List X) (y : X) → IsNonDecreasingBy n xs
    → IsNonDecreasingBy n (insert xs (prefix_len (λ e. ltb (n e) (n y)) xs) y)
ordered-insert {X} n xs y up = IsNonDecreasingBy-insert n xs place y up (prefix_len-le-length lower xs) front back
  where
    lower : X → Bool
    lower e = ltb (n e) (n y)

    place : ℕ
    place = prefix_len lower xs

    front : (k : ℕ) (d : X) → k < place → n (get_or xs k d) ≤ n y
    front k d before = omega (arith, ltb-true _ _ (prefix_len_passes lower xs k d before))

    back : (k : ℕ) (d : X) → place ≤ k → k < length xs → n y ≤ n (get_or xs k d)
    back k d behind inside =
        let first = ltb-false _ _ (prefix_len_stops lower xs d (omega (arith, behind, inside))) in
        omega (arith, first, up place k d behind inside)

-- so do all but one
pub ordered-remove : {X : Type 0} (n : X → ℕ) (xs : List X) (i : ℕ) → i < length xs → IsNonDecreasingBy n xs
    → IsNonDecreasingBy n (remove xs i)
ordered-remove n xs i inside up a b d le lt =
    by_test (ltb a i) (λ before. by_test (ltb b i) (both before) (between before)) behind
  where
    InOrder : Type 0
    InOrder = n (get_or (remove xs i) a d) ≤ n (get_or (remove xs i) b d)

    below : (k : ℕ) → ltb k i ≡ true → n (get_or (remove xs i) k d) ≡ n (get_or xs k d)
    below k before = ap n (get_or-remove_below xs i d k (ltb-true k i before) inside)

    above : (k : ℕ) → i ≤ k → n (get_or (remove xs i) k d) ≡ n (get_or xs (k + 1) d)
    above k past = ap n (get_or-remove_above xs i d k past inside)

    next : b + 1 < length xs
    next = omega (arith, lt, length-remove xs i inside)

    both : ltb a i ≡ true → ltb b i ≡ true → InOrder
    both a_below b_below =
        omega (arith, below a a_below, below b b_below, up a b d le (omega (arith, ltb-true b i b_below, inside)))

    between : ltb a i ≡ true → ltb b i ≡ false → InOrder
    between a_below b_above =
        omega (arith, below a a_below, above b (ltb-false b i b_above), up a (b + 1) d (omega (arith, le)) next)

    behind : ltb a i ≡ false → InOrder
    behind a_above =
        let past = ltb-false a i a_above in
        omega (arith, above a past, above b (omega (arith, past, le)), up (a + 1) (b + 1) d (omega (arith, le)) next)

-- and another as high in the place of one
pub ordered-set : {X : Type 0} (n : X → ℕ) (xs : List X) (i : ℕ) (y : X) → ((d : X) → n y ≡ n (get_or xs i d))
    → i < length xs → IsNonDecreasingBy n xs → IsNonDecreasingBy n (set xs i y)
ordered-set n xs i y as_high inside up a b d le lt =
    omega (arith, kept a, kept b, up a b d le (omega (arith, lt, length-set xs i y)))
  where
    at : (k : ℕ) → k ≡ i → n (get_or (set xs i y) k d) ≡ n (get_or xs k d)
    at k same = ap n (get_or-set_at xs i k y d same inside) ∙ as_high d ∙ ap (λ j. n (get_or xs j d)) (sym same)

    kept : (k : ℕ) → n (get_or (set xs i y) k d) ≡ n (get_or xs k d)
    kept k =
        by_test (eqb k i) (λ same. at k (eqb-true k i same))
        (λ other. ap n (get_or-set_other xs i k y d (eqb-false k i other)))

-- where the first item that passes stands, if it stands anywhere
position-at : {X : Type 0} (p : X → Bool) (xs : List X) (i : ℕ) (b : Bool) → position_or_len p xs ≡ i
    → ltb i (length xs) ≡ b → position p xs ≡ cond b (Some i) None
position-at p xs i b at told =
    ap (λ n. cond (ltb n (length xs)) (Some n) None) at ∙ ap (λ c. cond c (Some i) None) told

-- it stands where it was found
pub position-found : {X : Type 0} (p : X → Bool) (xs : List X) (i : ℕ) (d : X) → i < length xs
    → ((k : ℕ) → k < i → p (get_or xs k d) ≡ false) → p (get_or xs i d) ≡ true → position p xs ≡ Some i
position-found p xs i d inside none passes =
    position-at p xs i true (position_or_len_is p xs i d (omega (arith, inside)) none (λ _. passes))
    (lt-ltb i (length xs) inside)

-- and nowhere, where none passes
pub position-none : {X : Type 0} (p : X → Bool) (xs : List X)
    → ((k : ℕ) (d : X) → k < length xs → p (get_or xs k d) ≡ false) → position p xs ≡ None
position-none p [] none = refl
position-none {X} p (x ∷ xs) none = position-at p all (length all) false at (le-ltb (length all) (length all) (omega arith))
  where
    all : List X
    all = x ∷ xs

    at : position_or_len p all ≡ length all
    at = position_or_len_is p all (length all) x (omega arith) (λ k within. none k x within)
        (λ past. absurd (omega (arith, past)))

-- an entry of another bucket hasn't the key
other_bucket : (buckets : ℕ) (key : List ℕ) (e : HashEntry) → bucket_of buckets e.key ≢ bucket_of buckets key
    → has_key key e ≡ false
other_bucket buckets key e differs =
    by_test (has_key key e) (λ is. absurd (differs (ap (bucket_of buckets) (sym (same_text key e.key (sym is))))))
    (λ isn't. isn't)

-- nor has one in front of those of the key's bucket
pub lower_bucket : (h : Hash) (key : List ℕ) (bucket k : ℕ) (d : HashEntry) → bucket ≡ bucket_of h.buckets key
    → k < bucket_start h bucket → has_key key (get_or h.entries k d) ≡ false
lower_bucket h key bucket k d is before =
    let test = λ (e : HashEntry). ltb (bucket_of h.buckets e.key) bucket in
    let lower = ltb-true _ _ (prefix_len_passes test h.entries k d before) in
    other_bucket h.buckets key (get_or h.entries k d) (λ same. absurd (omega (arith, lower, is, same)))

-- nor one behind them
pub higher_bucket : (h : Hash) (key : List ℕ) (bucket k : ℕ) (d : HashEntry) → AreByBucket h.buckets h.entries
    → bucket ≡ bucket_of h.buckets key → bucket_start h (bucket + 1) ≤ k → k < length h.entries
    → has_key key (get_or h.entries k d) ≡ false
higher_bucket h key bucket k d by_bucket is behind inside =
    let test = λ (e : HashEntry). ltb (bucket_of h.buckets e.key) (bucket + 1) in
    let first = ltb-false _ _ (prefix_len_stops test h.entries d (omega (arith, behind, inside))) in
    let higher = by_bucket (prefix_len test h.entries) k d behind inside in
    other_bucket h.buckets key (get_or h.entries k d) (λ same. absurd (omega (arith, first, higher, is, same)))
