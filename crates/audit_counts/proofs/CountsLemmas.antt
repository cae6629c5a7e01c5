-- Counts of extents.
use Rattle.std.proofs.Common.{◌≡◌, ◌≤◌, ◌<◌, ◌+◌, ◌-◌, ◌*◌, ◌^◌, ◌==◌, ℕ, List, [], ◌∷◌, ◌++◌, drop, cond, Bool, false, get_or, length, min, sum_by, take, count_by, arith, ap, ◌∙◌, sym, inl, inr}
use Rattle.std.specs.List.{All}
use Rattle.std.proofs.lemmas.Bool.{and_left, cases_Bool, or_parts}
use Rattle.std.proofs.lemmas.List.FromFn.{length-map-range_with_len, sum_by-map-range_with_len_more}
use Rattle.std.proofs.lemmas.List.Elements.{All-cons, All-nil}
use Rattle.std.proofs.lemmas.List.Sums.{count_by-le-length, sum_by-le}
use Rattle.std.proofs.lemmas.Nat.{mul-le}
use Rattle.std.proofs.Math.Seq.{take-append_seam}
use Rattle.sdr_base.specs.KeptHeap.{block_in}
use Rattle.sdr_base.specs.ZcoObjects.{account_number}
use Rattle.sdr_base.specs.declared.account.Acct.{Acct}
use Rattle.sdr_base.specs.declared.kind.Kind.TheVariants as kinds
use Rattle.sdr_base.specs.declared.layout.object.TheConstants as object
use Rattle.audit_counts.specs.Counts.{named_count, is_object_of, extent_names, uses_at}
use Rattle.audit_owners.specs.Places.{places}
use Rattle.audit_owners.specs.Members.{members}
use Rattle.audit_counts.specs.Numbers.{AreTold}
use Rattle.audit_owners.proofs.MembersLemmas.{length-followed}
use Rattle.audit_owners.proofs.PlacesLemmas.{sum_over}
use Rattle.audit_owners.specs.Chains.{first_link}
use Rattle.audit_owners.specs.Scan.{HaveNoneOf}
use Rattle.audit_owners.specs.View.{View, is_kind, is_one_of, view_in, word_of}
use Rattle.audit_owners.specs.declared.owner.Owner.TheVariants as owners

-- what holds of each number holds of those in a list
All-each : (P : ℕ → Type 0) → ((n : ℕ) → P n) → (xs : List ℕ) → All P xs
All-each P holds [] = All-nil P
All-each P holds (x ∷ xs) = All-cons P x xs (holds x) (All-each P holds xs)

-- an object has no more extents than there are words
uses_few : (heap : View) (words : ℕ) (account : Acct) (from addr : ℕ) → uses_at heap words account from addr ≤ words
uses_few heap words account from addr =
    let most = length-followed heap (owners.Extents addr) words (first_link heap (owners.Extents addr)) in
    let some = count_by-le-length (extent_names heap from) (members heap words (owners.Extents addr)) in
    elim (cases_Bool (is_object_of heap account addr)) [
      | inl is ↦
          let e = ap (λ (t : Bool). cond t (count_by (extent_names heap from) (members heap words (owners.Extents addr))) 0) is in
          omega (arith, e, some, most)
      | inr off ↦
          let e = ap (λ (t : Bool). cond t (count_by (extent_names heap from) (members heap words (owners.Extents addr))) 0) off in
          omega (arith, e)
    ]

-- the same numbers are told
pub told_same : (f g : ℕ → ℕ) (counts : List ℕ) → ((from : ℕ) → f from ≡ g from) → AreTold f counts → AreTold g counts
told_same f g counts same told = record {
  each = λ word less. told.each word less ∙ ap (λ (n : ℕ). min n (2 ^ 64 - 1)) (same (8 * word));
}

-- the uses at one more place
pub uses_more : (heap : View) (words : ℕ) (account : Acct) (number from : ℕ) →
    sum_by (uses_at heap words account from) (places (number + 1))
    ≡ sum_by (uses_at heap words account from) (places number) + uses_at heap words account from (8 * number)
uses_more heap words account number from =
    sum_by-map-range_with_len_more (uses_at heap words account from) (λ word. 8 * word) 0 number number (omega arith)

-- where no object is, none is of an account
pub no_object : (heap : View) (account : Acct) (addr : ℕ) → is_kind kinds.Object (heap.blocks addr) ≡ false → is_object_of heap account addr ≡ false
no_object heap account addr = and_left (is_kind kinds.Object (heap.blocks addr)) (word_of (heap.blocks addr) object.ACCOUNT == account_number account)

-- so words without objects add no uses
pub told_over : (bytes : List ℕ) (words : ℕ) (account : Acct) (counts : List ℕ) (first to : ℕ) → first ≤ to → HaveNoneOf (kinds.Object ∷ []) bytes first to →
    AreTold (λ from. sum_by (uses_at (view_in bytes) words account from) (places first)) counts →
    AreTold (λ from. sum_by (uses_at (view_in bytes) words account from) (places to)) counts
told_over bytes words account counts first to onward none =
    told_same _ (λ from. sum_by (uses_at (view_in bytes) words account from) (places to)) counts
    (λ from. sym (sum_over (kinds.Object ∷ []) bytes (uses_at (view_in bytes) words account from) first to (unused from) onward none))
  where
    unused : (from addr : ℕ) → is_one_of (kinds.Object ∷ []) (block_in bytes addr) ≡ false → uses_at (view_in bytes) words account from addr ≡ 0
    unused from addr off =
        ap (λ (t : Bool). cond t (count_by (extent_names (view_in bytes) from) (members (view_in bytes) words (owners.Extents addr))) 0)
        (no_object (view_in bytes) account addr (or_parts (is_kind kinds.Object (block_in bytes addr)) false off).0)

-- how many extents name a source is at most the square of the words
pub count_small : (heap : View) (words : ℕ) (account : Acct) (from : ℕ) → words < 2 ^ 30 → named_count heap words account from < 2 ^ 64 - 1
count_small heap words account from few =
    let all = sum_by-le (uses_at heap words account from) words (places words) (All-each _ (uses_few heap words account from) (places words)) in
    let n = length-map-range_with_len (λ word. 8 * word) 0 words in
    let e = ap (λ (n : ℕ). n * words) n in
    let most = mul-le words words (2 ^ 30) (2 ^ 30) (omega (arith, few)) (omega (arith, few)) in
    omega (arith, all, e, most)

-- so its number is told as it is
pub told_exact : (heap : View) (words : ℕ) (account : Acct) (counts : List ℕ) (word : ℕ) → words < 2 ^ 30 →
    AreTold (named_count heap words account) counts → word < length counts → get_or counts word 0 ≡ named_count heap words account (8 * word)
told_exact heap words account counts word few told less =
    let e = told.each word less in
    let small = count_small heap words account (8 * word) few in
    omega (arith, e, small)

-- a list that was written whole
pub whole_slice : (new old : List ℕ) (len : ℕ) → length new ≡ length old → length old ≡ len → take len (new ++ drop (length new) old) ≡ new
whole_slice new old len same is =
    ap (λ (n : ℕ). take n (new ++ drop (length new) old)) (sym is ∙ sym same) ∙ take-append_seam new (drop (length new) old)

-- a source that an object's extents name is counted once more
pub uses_push : (heap : View) (words : ℕ) (account : Acct) (number : ℕ) (counts : List ℕ) →
    AreTold (λ from. sum_by (uses_at heap words account from) (places number) + uses_at heap words account from (8 * number)) counts →
    AreTold (λ from. sum_by (uses_at heap words account from) (places (number + 1))) counts
uses_push heap words account number counts told =
    told_same _ (λ from. sum_by (uses_at heap words account from) (places (number + 1))) counts (λ from. sym (uses_more heap words account number from)) told
