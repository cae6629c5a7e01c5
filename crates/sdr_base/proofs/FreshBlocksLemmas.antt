-- A fresh heap has no block in use, and its control words are as written.
use Rattle.std.proofs.Common.{◌≡◌, ◌≤◌, ◌<◌, lit<, inl, inr, subst, ℕ, zero, suc, ◌+◌, ◌-◌, ◌*◌, ◌/◌, ◌%◌, ◌^◌, ◌==◌, cond, ◌&&◌, List, [], ◌∷◌, ◌++◌, Option, Some, None, refl, ap, sym, ◌∙◌}
use Rattle.std.proofs.Common.{arith, get_or}
use Rattle.std.specs.Prelude.{nat_lt, replicate}
use Rattle.std.specs.Int.{bit_at}
use Rattle.std.specs.List.{AllByRecursion}
use Rattle.std.proofs.lemmas.Bool.{cases_lt, le-leb, le-ltb, lt-leb, lt-ltb}
use Rattle.std.proofs.lemmas.List.{get_or-append_right, get_or_past}
use Rattle.std.proofs.lemmas.Nat.Bits.{bit_at-zero}
use Rattle.sdr_base.specs.declared.control.TheConstants.{HEAP_VERSION}
use Rattle.sdr_base.specs.FreshHeap.{first_block, fresh_account, fresh_heap, fresh_words}
use Rattle.sdr_base.specs.KeptHeap.{KeepsHeap, block_in, block_led, block_of, leader_place, root_in}
use Rattle.sdr_base.specs.Kinds.{kind_of}
use Rattle.sdr_base.specs.Parts.{part}
use Rattle.sdr_base.specs.Pools.{fresh_pools}
use Rattle.sdr_base.specs.Roots.{roots_by}
use Rattle.sdr_base.specs.Stored.{leader_kind, leader_length, number_at, start_bit}
use Rattle.sdr_base.proofs.FreshLargeLemmas.{fresh_keeps_large}
use Rattle.sdr_base.proofs.FreshPoolsLemmas.{fresh_byte, fresh_keeps, number_at-fresh}

-- it keeps the pools that have no block
pub fresh_keeps_heap : (lines : ℕ) → 32 ≤ lines → lines ≤ 262144 → KeepsHeap (fresh_heap lines) (fresh_pools lines)
fresh_keeps_heap lines least most = record {
  small = fresh_keeps lines least most;
  large = fresh_keeps_large lines least most;
  labels = record {
    small = λ words other apart some. absurd (omega (arith, some));
    large = λ words other apart some. absurd (omega (arith, some));
  };
}

-- no start bit is set
no_bit : (lines word : ℕ) → 32 ≤ lines → start_bit word (fresh_heap lines) ≡ 0
unfolding start_bit
no_bit lines word least =
    ap (λ (b : ℕ). bit_at b (7 - word % 8)) (fresh_byte lines (1024 + word / 8) least (omega arith))
    ∙ bit_at-zero (7 - word % 8)

none_led : (lines addr : ℕ) (place : Option ℕ) → 32 ≤ lines → block_led (fresh_heap lines) addr place ≡ None
none_led lines addr None least = refl
none_led lines addr (Some place) least =
    let bytes = fresh_heap lines in
    ap
    (λ (bit : ℕ). cond (bit == 1)
    (block_of (kind_of (leader_kind place bytes)) (part addr (leader_length place bytes) bytes)) None)
    (no_bit lines (place / 8) least)

-- so no block is in use
pub fresh_block : (lines addr : ℕ) → 32 ≤ lines → block_in (fresh_heap lines) addr ≡ None
unfolding block_in
fresh_block lines addr least = none_led lines addr (leader_place (fresh_heap lines) addr) least

-- the control words from 89 on
abbrev pub fresh_roots : ℕ → List ℕ
fresh_roots lines = 0 ∷ 0 ∷ HEAP_VERSION ∷ (fresh_account lines ++ fresh_account lines ++ 1 ∷ replicate 19 0)

-- those before them
abbrev front_words : ℕ → List ℕ
front_words lines = 64 * lines ∷ first_block lines ∷ first_block lines ∷ 64 * lines ∷ replicate 85 0

split_words : (lines : ℕ) → fresh_words lines ≡ front_words lines ++ fresh_roots lines
split_words lines = refl

fresh_word : (lines n : ℕ) → 89 ≤ n → get_or (fresh_words lines) n 0 ≡ get_or (fresh_roots lines) (n - 89) 0
fresh_word lines n ge =
    ap (λ (ws : List ℕ). get_or ws n 0) (split_words lines)
    ∙ get_or-append_right (front_words lines) (fresh_roots lines) 89 n 0 refl ge

-- each of these fits a word
abbrev Fit : List ℕ → Type 0
Fit = AllByRecursion (λ w. w < 2 ^ 64)

fit_at : (ws : List ℕ) (k : ℕ) → Fit ws → get_or ws k 0 < 2 ^ 64
fit_at [] k fit = lit< tt
fit_at (w ∷ ws) zero fit = fit.0
fit_at (w ∷ ws) (suc k) fit = fit_at ws k fit.1

account_fits : (lines : ℕ) (ws : List ℕ) → lines ≤ 262144 → Fit ws → Fit (fresh_account lines ++ ws)
account_fits lines ws most fit =
    (lit< tt, (lit< tt, (lit< tt, (lit< tt, (lit< tt, (omega (arith, most), (lit< tt, (lit< tt, fit))))))))

zeros_fit : (n : ℕ) → Fit (replicate n 0)
zeros_fit zero = tt
zeros_fit (suc n) = (lit< tt, zeros_fit n)

roots_fit : (lines : ℕ) → lines ≤ 262144 → Fit (fresh_roots lines)
roots_fit lines most = (
  lit< tt,
  (
    lit< tt,
    (
      lit< tt,
      account_fits lines (fresh_account lines ++ 1 ∷ replicate 19 0) most
          (account_fits lines (1 ∷ replicate 19 0) most (lit< tt, zeros_fit 19)),
    ),
  ),
)

-- so the control words that belong to blocks are these
pub fresh_root : (lines word : ℕ) → 32 ≤ lines → lines ≤ 262144 →
    root_in (fresh_heap lines) word ≡ roots_by (fresh_roots lines) word
unfolding roots_by root_in
fresh_root lines word least most = elim (cases_lt word 89) [
  | inl lt ↦
      ap (λ b. cond (b && nat_lt word 128) (number_at (8 * word) (fresh_heap lines)) 0) (lt-leb 89 word lt)
      ∙ ap (λ b. cond b 0 (get_or (fresh_roots lines) (word - 89) 0)) (sym (lt-ltb word 89 lt))
  | inr ge ↦ elim (cases_lt word 128) [
    | inl lt ↦
        ap (λ b. cond (b && nat_lt word 128) (number_at (8 * word) (fresh_heap lines)) 0) (le-leb 89 word ge)
        ∙ ap (λ b. cond b (number_at (8 * word) (fresh_heap lines)) 0) (lt-ltb word 128 lt)
        ∙ number_at-fresh lines word least lt
        (subst (λ n. n < 2 ^ 64) (sym (fresh_word lines word ge)) (fit_at (fresh_roots lines) (word - 89) (roots_fit lines most)))
        ∙ fresh_word lines word ge
        ∙ ap (λ b. cond b 0 (get_or (fresh_roots lines) (word - 89) 0)) (sym (le-ltb word 89 ge))
    | inr past ↦
        ap (λ b. cond (b && nat_lt word 128) (number_at (8 * word) (fresh_heap lines)) 0) (le-leb 89 word ge)
        ∙ ap (λ b. cond b (number_at (8 * word) (fresh_heap lines)) 0) (le-ltb word 128 past)
        ∙ sym (get_or_past (fresh_roots lines) (word - 89) 0 (omega (arith, past)))
        ∙ ap (λ b. cond b 0 (get_or (fresh_roots lines) (word - 89) 0)) (sym (le-ltb word 89 ge))
  ]
]
