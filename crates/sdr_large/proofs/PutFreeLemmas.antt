-- A free block that comes to the gap, at the front of its list, in the bytes.
use Rattle.std.proofs.Common.{◌≡◌, ◌≢◌, ◌≤◌, ◌<◌, ◌⊎◌, inl, inr, ℕ, ◌+◌, ◌-◌, ◌*◌, ◌/◌, ◌^◌, false}
use Rattle.std.proofs.Common.{List, length, get_or, sym, ap, ◌∙◌, arith, subst}
use Rattle.sdr_base.specs.Pools.{PoolBlock, Pools}
use Rattle.sdr_base.specs.LargePool.{order_of}
use Rattle.sdr_base.specs.KeptPools.{IsOutside}
use Rattle.sdr_base.specs.KeptLarge.{HoldsLarge, large_place}
use Rattle.sdr_base.specs.Stored.{number_at, with_number, leader_words, start_bit}
use Rattle.sdr_base.proofs.PartsLemmas.{sides}
use Rattle.sdr_base.proofs.StartBitsLemmas.{start_bit-same}
use Rattle.sdr_base.proofs.StoredLemmas.{number_at-with_number, get_or-with_number, length-with_number, number_at-same}
use Rattle.sdr_large.specs.Frame.{HasFrame}
use Rattle.sdr_large.specs.Gap.{TilesAround, IsFree}
use Rattle.sdr_large.specs.Steps.{with_before, ReachesBack}
use Rattle.sdr_large.proofs.BackLemmas.{outside_of, length-with_before, get_or-with_before, number_at-with_before}
use Rattle.sdr_large.proofs.ChangeLemmas.{MayChange, ChangesOnly}
use Rattle.sdr_large.proofs.GapLemmas.{next_out, back_out, front_free}
use Rattle.sdr_large.proofs.LinksLemmas.{FreeAt}
use Rattle.sdr_large.proofs.ListsLemmas.{order_of-le}
use Rattle.sdr_large.proofs.PartedLemmas.{IsBeside}
use Rattle.sdr_large.proofs.PlacesLemmas.{IsApart, InOrder, in_order, at_block, free_of}
use Rattle.sdr_large.proofs.PlacesLemmas.{next_back, back_back}

-- the block is linked at the front of its list, and all other links stay
pub record IsPushed (P : Pools) (from to words addr : ℕ) (x y : List ℕ) : Type 0 where
  pub changes : ChangesOnly P from to x y
  pub front_is : number_at (large_place (order_of words)) y ≡ addr
  pub back_is : (w : ℕ) → number_at (large_place (order_of words)) x ≢ 0 →
      IsFree P w (number_at (large_place (order_of words)) x) →
      number_at (number_at (large_place (order_of words)) x + 8 * w) y ≡ addr
  pub next_same : (w b : ℕ) → IsFree P w b → number_at (b - 8) y ≡ number_at (b - 8) x
  pub back_same : (w b : ℕ) → IsFree P w b → b ≢ number_at (large_place (order_of words)) x →
      number_at (b + 8 * w) y ≡ number_at (b + 8 * w) x
  pub front_same : (o : ℕ) → o ≤ 20 → o ≢ order_of words →
      number_at (large_place o) y ≡ number_at (large_place o) x
  pub bits : (word : ℕ) → word < 8 * (P.start - 1024) → start_bit word y ≡ start_bit word x

module _ (P : Pools) (from to : ℕ) (x : List ℕ) (tiles : TilesAround P from to) (holds : HoldsLarge x P)
    (words addr : ℕ) (at : addr ≡ from + 16) (fits : from + 8 * (4 + words) ≤ to) (some : 1 ≤ words) where
  abbrev pub list : ℕ
  list = order_of words

  abbrev pub front : ℕ
  front = number_at (large_place list) x

  order : InOrder P from to
  order = in_order P from to tiles

  pub first : front ≢ 0 → FreeAt P.large front
  first some_front = front_free P from to x tiles holds words addr at fits list (order_of-le words) some_front

  at_free : (w b : ℕ) → IsFree P w b → IsBeside P.high P.end from to w b P.large
  at_free w b f = at_block P from to tiles w b (free_of P from to tiles w b f)

  first_words : (s : front ≢ 0) → leader_words (front - 16) x ≡ (first s).words
  first_words s = holds.leaders (first s).words front (free_of P from to tiles (first s).words front (first s).free)

  pub first_fits : front ≢ 0 → ReachesBack front x
  first_fits s =
      let b = at_free (first s).words front (first s).free in
      record {
        short = omega (arith, holds.size, order.most);
        least = omega (arith, b.first);
        leader = omega (arith, b.last, holds.size);
        inside = omega (arith, b.last, holds.size, first_words s);
      }

  abbrev back_at : ℕ
  back_at = front + 8 * leader_words (front - 16) x

  abbrev block : PoolBlock
  block = record { addr = addr; words = words; used = false }

  module _ (y : List ℕ) (frame : HasFrame false words addr front
      (with_number (large_place list) addr (with_before front addr x)) y) where
    was_in : large_place list + 8 ≤ length (with_before front addr x)
    was_in = omega (
      arith,
      length-with_before x front addr first_fits,
      holds.size,
      order_of-le words,
      order.control,
      order.small,
      order.order,
      order.first,
      order.gap,
      order.second,
    )

    size : length y ≡ length x
    size = frame.size ∙ length-with_number (large_place list) addr (with_before front addr x) was_in
        ∙ length-with_before x front addr first_fits

    -- a byte outside of the gap, of the front and of the link back
    out : (i : ℕ) → IsOutside from to i → IsOutside (large_place list) (large_place list + 8) i →
        (front ≢ 0 → IsOutside back_at (back_at + 8) i) → get_or y i 0 ≡ get_or x i 0
    out i gap beside back =
        frame.others i (frame_front gap) (frame_back gap)
        ∙ get_or-with_number (large_place list) addr (with_before front addr x) i was_in beside
        ∙ get_or-with_before x front addr first_fits i back
      where
        frame_front : IsOutside from to i → IsOutside (addr - 16) addr i
        frame_front (inl lt) = inl (omega (arith, lt, at))
        frame_front (inr ge) = inr (omega (arith, ge, at, fits))

        frame_back : IsOutside from to i → IsOutside (addr + 8 * words) (addr + 8 * words + 16) i
        frame_back (inl lt) = inl (omega (arith, lt, at))
        frame_back (inr ge) = inr (omega (arith, ge, at, fits))

    changes : ChangesOnly P from to x y
    changes = record {
      size = size;
      bytes = λ i bits never. out i (not_gap i never (cases i)) (not_front i never (sides (large_place list) 8 i))
          (λ s. not_back i s never (sides back_at 8 i));
    }
      where
        cases : (i : ℕ) → ((i < from) ⊎ (to ≤ i)) ⊎ ((from ≤ i) × (i < to))
        cases i = grind arith

        not_gap : (i : ℕ) → (MayChange P from to i → ⊥) → ((i < from) ⊎ (to ≤ i)) ⊎ ((from ≤ i) × (i < to)) →
            IsOutside from to i
        not_gap i never (inl outside) = outside
        not_gap i never (inr inside) = absurd (never (inr (inl inside)))

        not_front : (i : ℕ) → (MayChange P from to i → ⊥) →
            ((i < large_place list) ⊎ (large_place list + 8 ≤ i)) ⊎ ((large_place list ≤ i) × (i < large_place list + 8)) →
            IsOutside (large_place list) (large_place list + 8) i
        not_front i never (inl outside) = outside
        not_front i never (inr inside) = absurd (never (inl (
          omega (arith, inside.0),
          omega (arith, inside.1, order_of-le words),
        )))

        not_back : (i : ℕ) → front ≢ 0 → (MayChange P from to i → ⊥) →
            ((i < back_at) ⊎ (back_at + 8 ≤ i)) ⊎ ((back_at ≤ i) × (i < back_at + 8)) →
            IsOutside back_at (back_at + 8) i
        not_back i s never (inl outside) = outside
        not_back i s never (inr inside) = absurd (never (inr (inr (record {
          words = (first s).words;
          addr = front;
          free = (first s).free;
          at = inr (omega (arith, inside.0, first_words s), omega (arith, inside.1, first_words s));
        }))))

    next_same : (w b : ℕ) → IsFree P w b → number_at (b - 8) y ≡ number_at (b - 8) x
    next_same w b f = number_at-same (b - 8) x y (λ i ge lt. out i
        (next_out P from to x tiles holds words addr at fits w b i f ge lt)
        (inr (omega (
          arith,
          ge,
          order_of-le words,
          (at_free w b f).first,
          order.control,
          order.small,
          order.order,
        )))
        (λ s. outside_of (b - 8) back_at i (apart s) ge lt))
      where
        apart : front ≢ 0 → IsApart (b - 8) back_at
        apart s = subst (λ (n : ℕ). IsApart (b - 8) (front + 8 * n)) (sym (first_words s))
            (next_back P from to tiles w b (first s).words front f (first s).free)

    back_same : (w b : ℕ) → IsFree P w b → b ≢ front → number_at (b + 8 * w) y ≡ number_at (b + 8 * w) x
    back_same w b f differ = number_at-same (b + 8 * w) x y (λ i ge lt. out i
        (back_out P from to x tiles holds words addr at fits w b i f ge lt)
        (inr (omega (
          arith,
          ge,
          order_of-le words,
          (at_free w b f).first,
          order.control,
          order.small,
          order.order,
        )))
        (λ s. outside_of (b + 8 * w) back_at i (apart s) ge lt))
      where
        apart : front ≢ 0 → IsApart (b + 8 * w) back_at
        apart s = subst (λ (n : ℕ). IsApart (b + 8 * w) (front + 8 * n)) (sym (first_words s))
            (back_back P from to tiles w b (first s).words front f (first s).free (λ same. differ (sym same)))

    front_same : (o : ℕ) → o ≤ 20 → o ≢ list → number_at (large_place o) y ≡ number_at (large_place o) x
    front_same o le differ = number_at-same (large_place o) x y (λ i ge lt. out i
        (inl (omega (arith, lt, le, order.control, order.small, order.order, order.first)))
        (beside i ge lt (grind arith))
        (λ s. inl (omega (
          arith,
          lt,
          le,
          (at_free (first s).words front (first s).free).first,
          order.control,
          order.small,
          order.order,
        ))))
      where
        beside : (i : ℕ) → large_place o ≤ i → i < large_place o + 8 → (o < list) ⊎ (list < o) →
            IsOutside (large_place list) (large_place list + 8) i
        beside i ge lt (inl less) = inl (omega (arith, lt, less))
        beside i ge lt (inr more) = inr (omega (arith, ge, more))

    addr_small : addr < 2 ^ 64
    addr_small = omega (arith, at, fits, order.second, order.most)

    front_is : number_at (large_place list) y ≡ addr
    front_is =
        number_at-same (large_place list) (with_number (large_place list) addr (with_before front addr x)) y
        (λ i ge lt. frame.others i (low i lt) (low_back i lt))
        ∙ number_at-with_number (large_place list) addr (with_before front addr x) was_in addr_small
      where
        low : (i : ℕ) → i < large_place list + 8 → IsOutside (addr - 16) addr i
        low i lt = inl (omega (
          arith,
          lt,
          at,
          order_of-le words,
          order.control,
          order.small,
          order.order,
          order.first,
        ))

        low_back : (i : ℕ) → i < large_place list + 8 → IsOutside (addr + 8 * words) (addr + 8 * words + 16) i
        low_back i lt = inl (omega (
          arith,
          lt,
          at,
          order_of-le words,
          order.control,
          order.small,
          order.order,
          order.first,
        ))

    back_is : (w : ℕ) → front ≢ 0 → IsFree P w front → number_at (front + 8 * w) y ≡ addr
    back_is w s f =
        let same : front + 8 * w ≡ back_at = ap (λ (n : ℕ). front + 8 * n)
        (sym (holds.leaders w front (free_of P from to tiles w front f))) in
        ap (λ (p : ℕ). number_at p y) same
        ∙ number_at-same back_at (with_before front addr x) y (λ i ge lt.
        frame.others i (not_frame i (omega (arith, ge, same)) (omega (arith, lt, same)))
        (not_back i (omega (arith, ge, same)) (omega (arith, lt, same)))
        ∙ get_or-with_number (large_place list) addr (with_before front addr x) i was_in
        (inr (omega (
          arith,
          ge,
          order_of-le words,
          (at_free w front f).first,
          order.control,
          order.small,
          order.order,
        ))))
        ∙ number_at-with_before x front addr first_fits s addr_small
      where
        not_frame : (i : ℕ) → front + 8 * w ≤ i → i < front + 8 * w + 8 → IsOutside (addr - 16) addr i
        not_frame i ge lt = elim (back_out P from to x tiles holds words addr at fits w front i f ge lt) [
          | inl less ↦ inl (omega (arith, less, at))
          | inr more ↦ inr (omega (arith, more, at, fits))
        ]

        not_back : (i : ℕ) → front + 8 * w ≤ i → i < front + 8 * w + 8 →
            IsOutside (addr + 8 * words) (addr + 8 * words + 16) i
        not_back i ge lt = elim (back_out P from to x tiles holds words addr at fits w front i f ge lt) [
          | inl less ↦ inl (omega (arith, less, at))
          | inr more ↦ inr (omega (arith, more, at, fits))
        ]

    bit_same : (word : ℕ) → word < 8 * (P.start - 1024) → start_bit word y ≡ start_bit word x
    bit_same word within = start_bit-same word x y (out (1024 + word / 8)
        (inl (omega (arith, within, order.small, order.order, order.first)))
        (inr (omega (arith, order_of-le words)))
        (λ s. inl (omega (
          arith,
          within,
          (at_free (first s).words front (first s).free).first,
          order.small,
          order.order,
        ))))

    pub pushed : IsPushed P from to words addr x y
    pushed = record {
      changes = changes;
      front_is = front_is;
      back_is = back_is;
      next_same = next_same;
      back_same = back_same;
      front_same = front_same;
      bits = bit_same;
    }
