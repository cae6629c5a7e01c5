-- What stands at an address of a heap region, said by its pools.
use Rattle.std.proofs.Common.{◌≡◌, ◌≤◌, ◌<◌, ◌⊎◌, inl, inr, ℕ, ◌+◌, ◌-◌, ◌*◌, ◌/◌, ◌%◌, true, false, ◌&&◌, ◌==◌}
use Rattle.std.proofs.Common.{List, length, refl, ap, ◌∙◌, arith, subst}
use Rattle.std.specs.Prelude.{Option, Some, None, nat_lt, nat_le}
use Rattle.std.specs.List.{count_by}
use Rattle.std.proofs.lemmas.Bool.{cases_lt}
use Rattle.std.proofs.lemmas.Bool.Decides.{nat_tests}
use Rattle.sdr_base.specs.Blocks.{Block, Reaches, Uses}
use Rattle.sdr_base.specs.KeptLarge.{KeepsLarge}
use Rattle.sdr_base.specs.KeptPools.{KeepsSmall}
use Rattle.sdr_base.specs.Kinds.{kind_of}
use Rattle.sdr_base.specs.Parts.{part}
use Rattle.sdr_base.specs.Pools.{Pools, IsUsed, is_used_at}
use Rattle.sdr_base.specs.Rules.{IsInUse}
use Rattle.sdr_base.specs.SmallPool.{words_at}
use Rattle.sdr_base.specs.Stored.{number_at, leader_kind, leader_length, start_bit}
use Rattle.sdr_base.proofs.KeptPoolsLemmas.{IsInOrder, in_order, IsBlock, is_block}
use Rattle.sdr_base.proofs.PoolsLemmas.{used-le-at}
use Rattle.sdr_base.proofs.SmallPoolLemmas.{words_at-is}
use Rattle.sdr_large.proofs.PartedLemmas.{IsBeside}
use Rattle.sdr_large.proofs.PlacesLemmas.{in_order as large_order, at_block}
use Rattle.sdr_large.proofs.WalkLemmas.{tiles_whole}
use Rattle.sdr_base.specs.KeptHeap.{block_of, block_led, led_block, may_begin, block_in, leader_place}

-- a block may begin at an address
pub record MayBegin (x : List ℕ) (addr : ℕ) : Type 0 where
  pub whole : addr % 8 ≡ 0
  pub least : number_at 8 x < addr
  pub inside : addr < length x

module _ (x : List ℕ) (addr : ℕ) where
  may : MayBegin x addr → may_begin x addr ≡ true
  may m = test addr (number_at 8 x) (length x) m.whole m.least m.inside
    where
      test : (a s n : ℕ) → a % 8 ≡ 0 → s < a → a < n → (a % 8 == 0 && nat_lt s a && nat_lt a n) ≡ true
      test a s n whole least inside = grind (arith, nat_tests)

  may_or_not : MayBegin x addr ⊎ (may_begin x addr ≡ false)
  may_or_not = elim (test addr (number_at 8 x) (length x)) [
    | inl m ↦ inl (record { whole = m.0; least = m.1; inside = m.2 })
    | inr not_so ↦ inr not_so
  ]
    where
      test : (a s n : ℕ) → ((a % 8 ≡ 0) × (s < a) × (a < n)) ⊎ ((a % 8 == 0 && nat_lt s a && nat_lt a n) ≡ false)
      test a s n = elim (cases_lt 0 (a % 8)) [
        | inl part ↦ inr (grind (arith, nat_tests))
        | inr whole ↦ elim (cases_lt s a) [
          | inr low ↦ inr (grind (arith, nat_tests))
          | inl least ↦ elim (cases_lt a n) [
            | inr over ↦ inr (grind (arith, nat_tests))
            | inl inside ↦ inl (omega (arith, whole), least, inside)
          ]
        ]
      ]

  -- the leader of a small block stands a word before it
  leader_place-low : MayBegin x addr → addr - 8 < number_at 16 x → leader_place x addr ≡ Some (addr - 8)
  leader_place-low m low = rw (may m, test (addr - 8) (number_at 16 x) low) refl
    where
      test : (a b : ℕ) → a < b → nat_lt a b ≡ true
      test a b lt = grind (arith, nat_tests)

  -- and that of a large one two words before it
  leader_place-high : MayBegin x addr → number_at 16 x ≤ addr - 8 → number_at 24 x ≤ addr - 16 →
      leader_place x addr ≡ Some (addr - 16)
  leader_place-high m low high =
      rw (may m, below (addr - 8) (number_at 16 x) low, upto (number_at 24 x) (addr - 16) high) refl
    where
      below : (a b : ℕ) → b ≤ a → nat_lt a b ≡ false
      below a b le = grind (arith, nat_tests)

      upto : (a b : ℕ) → a ≤ b → nat_le a b ≡ true
      upto a b le = grind (arith, nat_tests)

  -- the block is the one that the leader there has
  pub block_in-at : (place : ℕ) → leader_place x addr ≡ Some place → block_in x addr ≡ led_block x place addr
  unfolding block_in
  block_in-at place is = ap (block_led x addr) is

  -- between the pools there is none
  pub block_in-between : MayBegin x addr → number_at 16 x ≤ addr - 8 → addr - 16 < number_at 24 x →
      block_in x addr ≡ None
  unfolding block_in
  block_in-between m low high =
      rw (may m, below (addr - 8) (number_at 16 x) low, over (number_at 24 x) (addr - 16) high) refl
    where
      below : (a b : ℕ) → b ≤ a → nat_lt a b ≡ false
      below a b le = grind (arith, nat_tests)

      over : (a b : ℕ) → b < a → nat_le a b ≡ false
      over a b lt = grind (arith, nat_tests)

  -- nor where none may begin
  pub block_in-nowhere : may_begin x addr ≡ false → block_in x addr ≡ None
  unfolding block_in
  block_in-nowhere never = rw never refl

-- a leader with its start bit set
pub led-set : (x : List ℕ) (place addr : ℕ) → start_bit (place / 8) x ≡ 1 →
    led_block x place addr ≡ block_of (kind_of (leader_kind place x)) (part addr (leader_length place x) x)
led-set x place addr set = rw set refl

-- and with its start bit clear
pub led-clear : (x : List ℕ) (place addr : ℕ) → start_bit (place / 8) x ≡ 0 → led_block x place addr ≡ None
led-clear x place addr clear = rw clear refl

module _ (x : List ℕ) (P : Pools) (small : KeepsSmall x P) (large : KeepsLarge x P) where
  o : IsInOrder x P
  o = in_order x P small

  -- where a small block in use stands
  pub small_block : (addr : ℕ) → IsUsed P.small addr → IsBlock x P (words_at addr P.small) addr
  small_block addr used = is_block x P (words_at addr P.small) addr small (words_at-is addr P.small used.used)

  -- where a large one does
  pub large_block : (addr : ℕ) → IsUsed P.large addr →
      IsBeside P.high P.end P.end P.end (words_at addr P.large) addr P.large
  large_block addr used =
      at_block P P.end P.end (tiles_whole P large.tiles) (words_at addr P.large) addr
      (words_at-is addr P.large used.used)

  -- where the leader of a small block in use stands
  pub small_place : (addr : ℕ) → IsUsed P.small addr → leader_place x addr ≡ Some (addr - 8)
  small_place addr used =
      let b = small_block addr used in
      leader_place-low x addr (record {
        whole = omega (arith, b.whole);
        least = omega (arith, small.start, b.first);
        inside = omega (arith, b.last, b.some, o.order, o.end);
      }) (omega (arith, small.low, b.last, b.some, b.first))

  -- a small block in use is what its leader says
  pub small_in : (addr : ℕ) → IsUsed P.small addr →
      block_in x addr ≡ block_of (kind_of (leader_kind (addr - 8) x)) (part addr (leader_length (addr - 8) x) x)
  small_in addr used =
      let b = small_block addr used in
      block_in-at x addr (addr - 8) (small_place addr used)
      ∙ led-set x (addr - 8) addr
      (small.bits ((addr - 8) / 8) (omega (arith, b.bit)) (omega (arith, b.whole, b.last, b.some, o.order))
      ∙ omega (
        arith,
        used.used,
        b.once,
        used-le-at addr P.small,
        ap (λ (n : ℕ). count_by (is_used_at n) P.small) b.whole,
      ))

  -- where the leader of a large one stands
  pub large_place : (addr : ℕ) → IsUsed P.large addr → leader_place x addr ≡ Some (addr - 16)
  large_place addr used =
      let b = large_block addr used in
      let q = large_order P P.end P.end (tiles_whole P large.tiles) in
      leader_place-high x addr (record {
        whole = b.whole q.whole q.end;
        least = omega (arith, small.start, b.first, o.small, o.order);
        inside = omega (arith, b.last, b.some, small.size);
      }) (omega (arith, small.low, b.first, o.order)) (omega (arith, small.high, b.first))

  -- a large one too
  pub large_in : (addr : ℕ) → IsUsed P.large addr →
      block_in x addr ≡ block_of (kind_of (leader_kind (addr - 16) x)) (part addr (leader_length (addr - 16) x) x)
  large_in addr used =
      let b = large_block addr used in
      let q = large_order P P.end P.end (tiles_whole P large.tiles) in
      let here : 8 * ((addr - 16) / 8) + 16 ≡ addr = omega (arith, b.first, b.whole q.whole q.end) in
      block_in-at x addr (addr - 16) (large_place addr used)
      ∙ led-set x (addr - 16) addr
      (large.holds.bits ((addr - 16) / 8)
      (omega (arith, o.bits (addr - 16) (omega (arith, b.last, b.some, small.size))))
      (omega (arith, here, b.first, o.order))
      ∙ omega (
        arith,
        used.used,
        b.once,
        used-le-at addr P.large,
        ap (λ (n : ℕ). count_by (is_used_at n) P.large) here,
      ))

  -- where neither pool has a block in use, there is none
  pub none_in : (addr : ℕ) → count_by (is_used_at addr) P.small ≡ 0 → count_by (is_used_at addr) P.large ≡ 0 →
      block_in x addr ≡ None
  none_in addr none_small none_large = elim (may_or_not x addr) [
    | inr never ↦ block_in-nowhere x addr never
    | inl m ↦ elim (cases_lt (addr - 8) (number_at 16 x)) [
      | inl low ↦
          let here : 8 * ((addr - 8) / 8) + 8 ≡ addr = omega (arith, m.whole, m.least, small.start, o.control) in
          block_in-at x addr (addr - 8) (leader_place-low x addr m low)
          ∙ led-clear x (addr - 8) addr
          (small.bits ((addr - 8) / 8) (omega (arith, o.bits (addr - 8) (omega (arith, m.inside, here))))
          (omega (arith, here, low, small.low, o.order))
          ∙ ap (λ (n : ℕ). count_by (is_used_at n) P.small) here ∙ none_small)
      | inr above ↦ elim (cases_lt (addr - 16) (number_at 24 x)) [
        | inl between ↦ block_in-between x addr m above between
        | inr high ↦
            let here : 8 * ((addr - 16) / 8) + 16 ≡ addr = omega (arith, m.whole, m.least, small.start, o.control) in
            block_in-at x addr (addr - 16) (leader_place-high x addr m above high)
            ∙ led-clear x (addr - 16) addr
            (large.holds.bits ((addr - 16) / 8) (omega (arith, o.bits (addr - 16) (omega (arith, m.inside, here))))
            (omega (arith, here, high, small.high, o.order))
            ∙ ap (λ (n : ℕ). count_by (is_used_at n) P.large) here ∙ none_large)
      ]
    ]
  ]

  -- where there is one, it is in use in one of the pools
  pub in_use : (addr : ℕ) → Uses (block_in x) addr → IsInUse P addr
  in_use addr uses = elim (cases_lt 0 (count_by (is_used_at addr) P.small)) [
    | inl some ↦ inl (record { used = some })
    | inr none ↦ elim (cases_lt 0 (count_by (is_used_at addr) P.large)) [
      | inl some ↦ inr (record { used = some })
      | inr none' ↦
          absurd (subst (λ (b : Option Block). Reaches b 0)
          (none_in addr (omega (arith, none)) (omega (arith, none'))) uses)
    ]
  ]
