-- The entries of a hash.
use Rattle.std.proofs.Common.{◌≡◌, ◌≤◌, ◌<◌, ◌+◌, ◌-◌, ◌*◌, ◌^◌, ◌==◌, ◌&&◌, ◌||◌, ℕ, Bool, true, false, not, cond, List, [], ◌∷◌, length, sum_by, arith, ap, ◌∙◌, refl}
use Rattle.std.specs.Prelude.{None, Some}
use Rattle.std.specs.List.{All, list_all, range_with_len}
use Rattle.std.proofs.lemmas.List.Elements.{All-cons, All-nil}
use Rattle.std.proofs.lemmas.List.FromFn.{length-range_with_len}
use Rattle.std.proofs.lemmas.List.Sums.{sum_by-le}
use Rattle.std.proofs.lemmas.Nat.{mul-le}
use Rattle.audit_owners.proofs.MembersLemmas.{length-followed}
use Rattle.sdr_base.specs.declared.kind.Kind.TheVariants as kinds
use Rattle.audit_owners.specs.Entries.{bucket, buckets, entry_count, keeps_bucket, keeps_entries}
use Rattle.audit_owners.specs.Chains.{first_link}
use Rattle.audit_owners.specs.View.{View, is_kind, word_of}
use Rattle.audit_owners.specs.declared.owner.Owner.TheVariants as owners

-- what is told of a bucket tells whether it is right, and how many entries it has
pub told_none : (right : Bool) (count : ℕ) → None ≡ cond right (Some count) None → right ≡ false
told_none true count is = let d : None ≡ Some count = is in cc
told_none false count is = refl

pub told_right : (right : Bool) (count told : ℕ) → Some told ≡ cond right (Some count) None → right ≡ true
told_right true count told is = refl
told_right false count told is = let d : Some told ≡ None = is in cc

pub told_count : (right : Bool) (count told : ℕ) → Some told ≡ cond right (Some count) None → told ≡ count
told_count true count told is = let d : Some told ≡ Some count = is in cc
told_count false count told is = let d : Some told ≡ None = is in cc

all_small : (f : ℕ → ℕ) (most : ℕ) → ((n : ℕ) → f n ≤ most) → (xs : List ℕ) → All (λ n. f n ≤ most) xs
all_small f most holds [] = All-nil (λ n. f n ≤ most)
all_small f most holds (x ∷ xs) = All-cons (λ n. f n ≤ most) x xs (holds x) (all_small f most holds xs)

-- a hash has fewer entries than a word counts
pub few_entries : (heap : View) (words addr buckets : ℕ) → words < 2 ^ 30 → buckets < 2 ^ 30 →
    sum_by (λ number. length (bucket heap words addr number)) (range_with_len 0 buckets) < 2 ^ 64 - 1
few_entries heap words addr buckets few few' =
    let f : ℕ → ℕ = λ number. length (bucket heap words addr number) in
    let one : (number : ℕ) → f number ≤ words =
    λ number. length-followed heap (owners.Bucket addr (3 + number)) words (first_link heap (owners.Bucket addr (3 + number))) in
    let all = sum_by-le f words (range_with_len 0 buckets) (all_small f words one (range_with_len 0 buckets)) in
    let n = ap (λ (n : ℕ). n * words) (length-range_with_len 0 buckets) in
    let most = mul-le buckets words (2 ^ 30) (2 ^ 30) (omega (arith, few')) (omega (arith, few)) in
    omega (arith, all, n, most)

-- what a hash keeps is told by its buckets and its number of entries
pub hash_told : (heap : View) (words addr : ℕ) (told : Bool) → is_kind kinds.Hash (heap.blocks addr) ≡ true →
    (list_all (keeps_bucket heap words addr) (buckets heap addr) && (word_of (heap.blocks addr) 2 == entry_count heap words addr)) ≡ told →
    keeps_entries heap words addr ≡ told
hash_told heap words addr told hash is =
    ap (λ (t : Bool). not t || (list_all (keeps_bucket heap words addr) (buckets heap addr) && (word_of (heap.blocks addr) 2 == entry_count heap words addr))) hash ∙ is

pub both_first : (s t : Bool) → s ≡ false → (s && t) ≡ false
both_first s t off = ap (λ (u : Bool). u && t) off
