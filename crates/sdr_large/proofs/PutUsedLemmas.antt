-- A block in use that comes to the gap, in the bytes.
use Rattle.std.proofs.Common.{◌≡◌, ◌≢◌, ◌≤◌, ◌<◌, ◌⊎◌, inl, inr, ℕ, ◌+◌, ◌-◌, ◌*◌, ◌/◌, Bool, true, false, cond, ◌&&◌}
use Rattle.std.proofs.Common.{List, get_or, refl, sym, ap, ◌∙◌, arith, subst}
use Rattle.std.specs.List.{count_by}
use Rattle.std.proofs.lemmas.Bool.{cases_eq, eq-eqb, ne_eqb, and_parts}
use Rattle.sdr_base.specs.Pools.{PoolBlock, Pools, is_of, is_free_of, is_used_at}
use Rattle.sdr_base.specs.LargePool.{with_placed, with_used_large}
use Rattle.sdr_base.specs.KeptPools.{IsOutside}
use Rattle.sdr_base.specs.KeptLarge.{Links, HoldsLarge, IsUsedBlock, is_used_of, large_place}
use Rattle.sdr_base.specs.Stored.{number_at, leader_words, start_bit, SetsStartBit}
use Rattle.sdr_base.proofs.PoolsLemmas.{is_of-true}
use Rattle.sdr_base.proofs.StartBitsLemmas.{start_bit-same}
use Rattle.sdr_base.proofs.StoredLemmas.{number_at-same, leader_words-same}
use Rattle.sdr_large.specs.Frame.{HasFrame}
use Rattle.sdr_large.specs.Gap.{TilesAround, IsFree, Steps}
use Rattle.sdr_large.proofs.BlocksLemmas.{count_by-with_placed}
use Rattle.sdr_large.proofs.ChangeLemmas.{MayChange, ChangesOnly, leaders_kept, free_kept, used_kept, used_stays}
use Rattle.sdr_large.proofs.ChangeLemmas.{control_kept, below_stays}
use Rattle.sdr_large.proofs.GapLemmas.{put_or_was, not_put, none_used, positive, other_addr, next_out, back_out}
use Rattle.sdr_large.proofs.LinksLemmas.{Links-same}
use Rattle.sdr_large.proofs.PlacesLemmas.{InOrder, in_order, at_block, free_of, entered_free}

module _ (x z y : List ℕ) (words addr : ℕ) (least : 16 ≤ addr) (frame : HasFrame true words addr 0 x z)
    (sets : SetsStartBit ((addr - 16) / 8) 1 z y) where
  -- a byte above the start bits
  above_bits : (start i : ℕ) → 1024 + (addr - 16) / 8 / 8 < start → start ≤ i → get_or y i 0 ≡ get_or z i 0
  above_bits start i bit ge = sets.others i (omega (arith, bit, ge))

  module _ (P : Pools) (from to : ℕ) (tiles : TilesAround P from to) (holds : HoldsLarge x P)
      (at : addr ≡ from + 16) (fits : from + 8 * (4 + words) ≤ to) (some : 1 ≤ words) where
    order : InOrder P from to
    order = in_order P from to tiles

    bit_in : 1024 + (addr - 16) / 8 / 8 < P.start
    bit_in = order.bits (addr - 16) (omega (arith, at, fits, order.second))

    -- a byte outside of the gap and of the start bits
    out : (i : ℕ) → IsOutside from to i → IsOutside 1024 P.start i → get_or y i 0 ≡ get_or x i 0
    out i gap bits = sets.others i (not_bit bits) ∙ frame.others i (front gap) (back gap)
      where
        not_bit : IsOutside 1024 P.start i → i ≢ 1024 + (addr - 16) / 8 / 8
        not_bit (inl lt) = omega (arith, lt)
        not_bit (inr ge) = omega (arith, ge, bit_in)

        front : IsOutside from to i → IsOutside (addr - 16) addr i
        front (inl lt) = inl (omega (arith, lt, at))
        front (inr ge) = inr (omega (arith, ge, at, fits))

        back : IsOutside from to i → IsOutside (addr + 8 * words) (addr + 8 * words + 16) i
        back (inl lt) = inl (omega (arith, lt, at))
        back (inr ge) = inr (omega (arith, ge, at, fits))

    changes : ChangesOnly P from to x y
    changes = record {
      size = sets.size ∙ frame.size;
      bytes = λ i bits never. out i (not_gap i never (cases i)) bits;
    }
      where
        cases : (i : ℕ) → ((i < from) ⊎ (to ≤ i)) ⊎ ((from ≤ i) × (i < to))
        cases i = grind arith

        not_gap : (i : ℕ) → (MayChange P from to i → ⊥) → ((i < from) ⊎ (to ≤ i)) ⊎ ((from ≤ i) × (i < to)) →
            IsOutside from to i
        not_gap i never (inl outside) = outside
        not_gap i never (inr inside) = absurd (never (inr (inl inside)))

    next_same : (w b : ℕ) → IsFree P w b → number_at (b - 8) y ≡ number_at (b - 8) x
    next_same w b f = number_at-same (b - 8) x y (λ i ge lt. out i
        (next_out P from to x tiles holds words addr at fits w b i f ge lt)
        (inr (omega (
          arith,
          ge,
          (at_block P from to tiles w b (free_of P from to tiles w b f)).first,
          order.small,
          order.order,
        ))))

    back_same : (w b : ℕ) → IsFree P w b → number_at (b + 8 * w) y ≡ number_at (b + 8 * w) x
    back_same w b f = number_at-same (b + 8 * w) x y (λ i ge lt. out i
        (back_out P from to x tiles holds words addr at fits w b i f ge lt)
        (inr (omega (
          arith,
          ge,
          (at_block P from to tiles w b (free_of P from to tiles w b f)).first,
          order.small,
          order.order,
        ))))

    front_same : (o : ℕ) → o ≤ 20 → number_at (large_place o) y ≡ number_at (large_place o) x
    front_same o le = number_at-same (large_place o) x y (λ i ge lt. out i
        (inl (omega (arith, lt, le, order.control, order.small, order.order, order.first)))
        (inl (omega (arith, lt, le))))

    lists : (o : ℕ) → o ≤ 20 → Links y (large_place o) 0 (P.large_lists o)
    lists o le =
        Links-same x y addr (positive P from to x tiles holds words addr at fits) (large_place o) 0 (P.large_lists o)
        (holds.lists o le) (λ differs. front_same o le)
        (λ w b there differs. next_same w b (entered_free P from to tiles o w b there))
        (λ w b there differs. back_same w b (entered_free P from to tiles o w b there))
        (λ zero_is. positive P from to x tiles holds words addr at fits (sym zero_is))
        (λ w b there. other_addr P from to x tiles holds words addr at fits w b (entered_free P from to tiles o w b there))

    abbrev block : PoolBlock
    block = record { addr = addr; words = words; used = true }

    -- a byte of the new block
    pub own : (i : ℕ) → addr - 16 ≤ i → get_or y i 0 ≡ get_or z i 0
    own i ge = above_bits P.start i bit_in (omega (arith, ge, at, order.small, order.order, order.first))

    own_used : IsUsedBlock words addr y
    own_used = record {
      next = number_at-same (addr - 8) z y (λ i ge lt. own i (omega (arith, ge))) ∙ frame.link;
      before = number_at-same (addr + 8 * words) z y (λ i ge lt. own i (omega (arith, ge))) ∙ frame.before;
      last = number_at-same (addr + 8 * words + 8) z y (λ i ge lt. own i (omega (arith, ge))) ∙ frame.last;
    }

    own_leader : leader_words (addr - 16) y ≡ words
    own_leader = leader_words-same (addr - 16) z y (λ i ge lt. own i ge) ∙ frame.named

    is_used_at-block : (n : ℕ) → n ≢ addr → is_used_at n block ≡ false
    is_used_at-block n differ = ap (λ (v : Bool). v && true) (ne_eqb addr n (λ same. differ (sym same)))

    is_free-block : (w a : ℕ) → is_free_of w a block ≡ false
    is_free-block w a = never (is_of w a block)
      where
        never : (v : Bool) → (v && false) ≡ false
        never true = refl
        never false = refl

    -- what a block of the new pool is
    of_new : (w a : ℕ) → is_of w a block ≡ true → (w ≡ words) × (a ≡ addr)
    of_new w a is = let b = is_of-true w a block is in (sym b.1, sym b.0)

    bit_same : (word : ℕ) → word ≢ (addr - 16) / 8 → word < 8 * (P.start - 1024) → start_bit word y ≡ start_bit word x
    bit_same word differ within =
        sets.bits word differ
        ∙ start_bit-same word x z (frame.others (1024 + word / 8)
        (inl (omega (arith, within, at, order.small, order.order, order.first)))
        (inl (omega (arith, within, at, order.small, order.order, order.first))))

    bits : (word : ℕ) → word < 8 * (P.start - 1024) → P.low ≤ 8 * word →
        start_bit word y ≡ count_by (is_used_at (8 * word + 16)) (with_placed block P.large)
    bits word within ge = elim (cases_eq (8 * word + 16) addr) [
      | inl here ↦
          ap (λ (w : ℕ). start_bit w y) (omega (arith, here)) ∙ sets.set
          ∙ sym (ap (λ (n : ℕ). count_by (is_used_at n) (with_placed block P.large)) here
          ∙ count_by-with_placed (is_used_at addr) block P.large
          ∙ ap (λ (v : Bool). cond (v && true) 1 0 + count_by (is_used_at addr) P.large) (eq-eqb addr addr refl)
          ∙ ap (λ (n : ℕ). 1 + n) (none_used P from to x tiles holds words addr at fits))
      | inr differ ↦
          bit_same word (λ same. differ (omega (arith, same, at, order.from_whole))) within
          ∙ holds.bits word within ge
          ∙ sym (not_put (is_used_at (8 * word + 16)) block P.large (is_used_at-block (8 * word + 16) differ))
    ]

    pub used_put : Steps P (with_used_large P addr words) 0 x y
    used_put = record {
      holds = record {
        size = changes.size ∙ holds.size;
        low = control_kept P from to x y tiles holds changes 16 (omega arith) ∙ holds.low;
        high = control_kept P from to x y tiles holds changes 24 (omega arith) ∙ holds.high;
        lists = lists;
        leaders = λ w a there. elim (put_or_was (is_of w a) block P.large there) [
          | inl new ↦ ap (λ (n : ℕ). leader_words (n - 16) y) (of_new w a new).1 ∙ own_leader ∙ sym (of_new w a new).0
          | inr was ↦ leaders_kept P from to x y tiles holds changes w a was
        ];
        free = λ w a there. free_kept P from to x y tiles holds changes w a
            (omega (arith, there, not_put (is_free_of w a) block P.large (is_free-block w a)));
        used = λ w a there. elim (put_or_was (is_used_of w a) block P.large there) [
          | inl new ↦
              let is = of_new w a (and_parts (is_of w a block) true new).0 in
              subst (λ (n : ℕ). IsUsedBlock n a y) (sym is.0)
              (subst (λ (n : ℕ). IsUsedBlock words n y) (sym is.1) own_used)
          | inr was ↦ used_kept P from to x y tiles holds changes w a was
        ];
        bits = bits;
      };
      below = below_stays P from to x y tiles holds changes (λ word within lt.
          bit_same word (omega (arith, lt, at, order.first, order.from_whole)) within);
      used = used_stays P from to x y tiles holds changes;
    }
