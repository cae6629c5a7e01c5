-- Blocks in use one after another.
use Rattle.std.proofs.Common.{◌≡◌, ◌≤◌, ◌<◌, ◌+◌, ◌-◌, ◌*◌, ◌/◌, ◌%◌, ◌==◌, ◌∙◌, ℕ, zero, suc, false, List, get_or, max, arith, ap, refl, subst, inl, inr}
use Rattle.std.specs.Prelude.{Option, None, Some, is_some}
use Rattle.std.specs.Int.{bit_at}
use Rattle.std.proofs.lemmas.Bool.{cases_eq, cases_lt, or_from}
use Rattle.std.proofs.lemmas.Nat.Bits.{bit_at-zero}
use Rattle.sdr_base.specs.Blocks.{Block, kind_length}
use Rattle.sdr_base.specs.KeptHeap.{block_in}
use Rattle.sdr_base.specs.Stored.{start_bit}
use Rattle.audit_owners.proofs.RegionLemmas.{found_unset, no_kind}
use Rattle.audit_owners.specs.Scan.{HasNoBlock, HasNoStart}

-- where the byte of a start bit is 0, the bit is clear
pub none_in_byte : (bytes : List ℕ) (word other : ℕ) → get_or bytes (1024 + word / 8) 0 ≡ 0 → other / 8 ≡ word / 8 → (start_bit other bytes == 1) ≡ false
unfolding start_bit
none_in_byte bytes word other clear same =
    let byte : get_or bytes (1024 + other / 8) 0 ≡ 0 = ap (λ (n : ℕ). get_or bytes (1024 + n) 0) same ∙ clear in
    ap (λ (n : ℕ). bit_at n (7 - other % 8) == 1) byte ∙ ap (λ (n : ℕ). n == 1) (bit_at-zero (7 - other % 8))

-- a block has a kind
pub some_kind : (b : Option Block) → is_some (kind_length b) ≡ is_some b
some_kind None = refl
some_kind (Some block) = refl

-- behind a word no block in use has its address before that behind the next start bit
pub none_behind : (bytes : List ℕ) (word start other : ℕ) → HasNoStart bytes (word - 1) start → word < other → other ≤ start → HasNoBlock bytes other
none_behind bytes word start other clear behind before =
    let number : 8 * other / 8 ≡ other = omega arith in
    let near = clear (other - 1) (omega (arith, behind)) (omega (arith, behind, before)) in
    let far = clear (other - 2) (omega (arith, behind)) (omega (arith, behind, before)) in
    let none = found_unset bytes (8 * other) (or_from _ _ (at (other - 1) (8 * other / 8 - 1) (omega arith) near) (at (other - 2) (8 * other / 8 - 2) (omega arith) far)) in
    no_kind (block_in bytes (8 * other)) (ap is_some none)
  where
    at : (n m : ℕ) → n ≡ m → (start_bit n bytes == 1) ≡ false → (start_bit m bytes == 1) ≡ false
    at n m same = subst (λ (k : ℕ). (start_bit k bytes == 1) ≡ false) same

-- what holds of the words from one up to another, of that one, and behind it up to a third, holds before the word to look at next
pub holds_up_to : (P : ℕ → Type 0) (from word start : ℕ) → ((other : ℕ) → from ≤ other → other < word → P other) → P word →
    ((other : ℕ) → word < other → other ≤ start → P other) → (other : ℕ) → from ≤ other → other < max start word + 1 → P other
holds_up_to P from word start before here behind other onward less = elim (cases_lt other word) [
  | inl below ↦ before other onward below
  | inr above ↦ elim (cases_eq word other) [
    | inl same ↦ subst P same here
    | inr off ↦ let past : word < other = omega (arith, above, off) in behind other past (omega (arith, past, less))
  ]
]

-- what holds at a word, and of each word behind a word without blocks too, holds behind such words
pub passed_over : (Passes P : ℕ → Type 0) (from to : ℕ) → ((word : ℕ) → Passes word → P word → P (word + 1)) →
    from ≤ to → ((word : ℕ) → from ≤ word → word < to → Passes word) → P from → P to
passed_over Passes P from to step onward none here = subst P (omega (arith, onward)) (by_count (to - from) (omega (arith, onward)))
  where
    by_count : (n : ℕ) → from + n ≤ to → P (from + n)
    by_count zero few = subst P (omega arith) here
    by_count (suc n) few =
        subst P (omega arith) (step (from + n) (none (from + n) (omega arith) (omega (arith, few))) (by_count n (omega (arith, few))))
