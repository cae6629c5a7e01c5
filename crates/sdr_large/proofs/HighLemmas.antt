-- The word that holds the end of the unassigned space, written.
use Rattle.std.proofs.Common.{◌≡◌, ◌≤◌, ◌<◌, ◌⊎◌, inl, inr, ℕ, ◌+◌, ◌-◌, ◌*◌, ◌/◌, ◌^◌}
use Rattle.std.proofs.Common.{List, length, get_or, ◌∙◌, arith}
use Rattle.std.specs.List.{count_by}
use Rattle.sdr_base.specs.Pools.{Pools, is_of}
use Rattle.sdr_base.specs.KeptLarge.{HoldsLarge, is_used_of, large_place}
use Rattle.sdr_base.specs.Stored.{number_at, with_number}
use Rattle.sdr_base.proofs.StartBitsLemmas.{start_bit-same}
use Rattle.sdr_base.proofs.StoredLemmas.{number_at-with_number, get_or-with_number, length-with_number, number_at-same}
use Rattle.sdr_base.proofs.StoredLemmas.{leader_words-same, leader_kind-same, leader_length-same}
use Rattle.sdr_large.specs.Gap.{TilesAround, IsFree, StaysBelow}
use Rattle.sdr_large.proofs.LinksLemmas.{Links-same}
use Rattle.sdr_large.proofs.PartedLemmas.{IsBeside}
use Rattle.sdr_large.proofs.PlacesLemmas.{InOrder, in_order, at_block, free_of, used_of, entered_free}

module _ (P : Pools) (from to high : ℕ) (x : List ℕ) (tiles : TilesAround P from to) (holds : HoldsLarge x P)
    (fits : high < 2 ^ 64) where
  order : InOrder P from to
  order = in_order P from to tiles

  inside : 24 + 8 ≤ length x
  inside = omega (
    arith,
    holds.size,
    order.control,
    order.small,
    order.order,
    order.first,
    order.gap,
    order.second,
  )

  byte : (i : ℕ) → (i < 24) ⊎ (24 + 8 ≤ i) → get_or (with_number 24 high x) i 0 ≡ get_or x i 0
  byte i out = get_or-with_number 24 high x i inside out

  -- a byte of a block
  up : (i : ℕ) → 32 ≤ i → get_or (with_number 24 high x) i 0 ≡ get_or x i 0
  up i ge = byte i (inr ge)

  at : (w a : ℕ) → 0 < count_by (is_of w a) P.large → IsBeside P.high P.end from to w a P.large
  at w a some = at_block P from to tiles w a some

  word : (p : ℕ) → 32 ≤ p → number_at p (with_number 24 high x) ≡ number_at p x
  word p ge = number_at-same p x (with_number 24 high x) (λ i le lt. up i (omega (arith, ge, le)))

  pub high_holds : HoldsLarge (with_number 24 high x) (record P { high = high })
  high_holds = record {
    size = length-with_number 24 high x inside ∙ holds.size;
    low = number_at-same 16 x (with_number 24 high x) (λ i le lt. byte i (inl (omega (arith, lt)))) ∙ holds.low;
    high = number_at-with_number 24 high x inside fits;
    lists = λ o le.
        Links-same x (with_number 24 high x) 8 (λ is. omega (arith, is)) (large_place o) 0 (P.large_lists o)
        (holds.lists o le) (λ differs. word (large_place o) (omega arith))
        (λ w b there differs. word (b - 8) (omega (arith, first w b (entered_free P from to tiles o w b there))))
        (λ w b there differs. word (b + 8 * w) (omega (arith, first w b (entered_free P from to tiles o w b there))))
        (λ is. omega (arith, is))
        (λ w b there is. omega (arith, is, first w b (entered_free P from to tiles o w b there)));
    leaders = λ w a there.
        leader_words-same (a - 16) x (with_number 24 high x)
        (λ i ge lt. up i (omega (arith, ge, (at w a there).first, order.control, order.small, order.order)))
        ∙ holds.leaders w a there;
    free = λ w a there.
        let was = holds.free w a there in
        let b = first w a there in
        record {
          kind = leader_kind-same (a - 16) x (with_number 24 high x) (λ i ge lt. up i (omega (arith, ge, b))) ∙ was.kind;
          length = leader_length-same (a - 16) x (with_number 24 high x) (λ i ge lt. up i (omega (arith, ge, b)))
              ∙ was.length;
          last = word (a + 8 * w + 8) (omega (arith, b)) ∙ was.last;
        };
    used = λ w a there.
        let was = holds.used w a there in
        let b = at w a (used_of P from to tiles w a there) in
        record {
          next = word (a - 8) (omega (arith, b.first, order.control, order.small, order.order)) ∙ was.next;
          before = word (a + 8 * w) (omega (arith, b.first, order.control, order.small, order.order)) ∙ was.before;
          last = word (a + 8 * w + 8) (omega (arith, b.first, order.control, order.small, order.order)) ∙ was.last;
        };
    bits = λ w within ge.
        start_bit-same w x (with_number 24 high x) (up (1024 + w / 8) (omega arith)) ∙ holds.bits w within ge;
  }
    where
      first : (w a : ℕ) → IsFree P w a → 1040 ≤ a
      first w a f = omega (
        arith,
        (at w a (free_of P from to tiles w a f)).first,
        order.control,
        order.small,
        order.order,
      )

  pub high_below : (to : ℕ) → StaysBelow P.start P.low to x (with_number 24 high x)
  high_below to = record {
    size = length-with_number 24 high x inside;
    front = λ i lt. byte i (inl lt);
    lists = λ i ge lt. byte i (inr ge);
    control = λ i ge lt. byte i (inr (omega (arith, ge)));
    blocks = λ i ge lt. byte i (inr (omega (arith, ge, order.control)));
    bits = λ w within lt. start_bit-same w x (with_number 24 high x) (up (1024 + w / 8) (omega arith));
  }

  pub high_used : (w a : ℕ) → 0 < count_by (is_used_of w a) P.large → (i : ℕ) → a - 16 ≤ i →
      get_or (with_number 24 high x) i 0 ≡ get_or x i 0
  high_used w a there i ge =
      up i (omega (
        arith,
        ge,
        (at w a (used_of P from to tiles w a there)).first,
        order.control,
        order.small,
        order.order,
      ))
