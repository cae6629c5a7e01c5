-- What stays of the large pool where only links, list fronts and the gap change.
use Rattle.std.proofs.Common.{◌≡◌, ◌≤◌, ◌<◌, ◌⊎◌, inl, inr, ℕ, ◌+◌, ◌-◌, ◌*◌}
use Rattle.std.proofs.Common.{List, length, get_or, ◌∙◌, arith, subst}
use Rattle.std.specs.List.{count_by}
use Rattle.sdr_base.specs.Pools.{Pools, is_of}
use Rattle.sdr_base.specs.KeptPools.{IsOutside}
use Rattle.sdr_base.specs.KeptLarge.{HoldsLarge, IsFreeBlock, IsUsedBlock, StaysUsed, is_used_of, large_place}
use Rattle.sdr_base.specs.Stored.{number_at, leader_words, start_bit}
use Rattle.sdr_base.proofs.StoredLemmas.{number_at-same, leader_words-same, leader_kind-same, leader_length-same}
use Rattle.sdr_large.specs.Gap.{TilesAround, IsFree, StaysBelow}
use Rattle.sdr_large.proofs.PartedLemmas.{IsBeside}
use Rattle.sdr_large.proofs.PlacesLemmas.{InOrder, in_order, at_block, free_of, used_of, one_or_apart, never_both}

-- the byte is one of the two words that link a free block
pub record IsLinkByte (P : Pools) (i : ℕ) : Type 0 where
  pub words : ℕ
  pub addr : ℕ
  pub free : IsFree P words addr
  pub at : ((addr - 8 ≤ i) × (i < addr)) ⊎ ((addr + 8 * words ≤ i) × (i < addr + 8 * words + 8))

-- the byte is one of a list's front, of the gap or of a link
abbrev pub MayChange : Pools → ℕ → ℕ → ℕ → Type 0
MayChange P from to i =
    ((large_place 0 ≤ i) × (i < large_place 21)) ⊎ (((from ≤ i) × (i < to)) ⊎ IsLinkByte P i)

-- beside the start bits no other byte changes
pub record ChangesOnly (P : Pools) (from to : ℕ) (x y : List ℕ) : Type 0 where
  pub size : length y ≡ length x
  pub bytes : (i : ℕ) → IsOutside 1024 P.start i → (MayChange P from to i → ⊥) → get_or y i 0 ≡ get_or x i 0

module _ (P : Pools) (from to : ℕ) (x y : List ℕ) (tiles : TilesAround P from to) (holds : HoldsLarge x P)
    (changes : ChangesOnly P from to x y) where
  order : InOrder P from to
  order = in_order P from to tiles

  -- a byte below all large blocks, beside the start bits and the lists' fronts
  pub low_byte : (i : ℕ) → i < P.high → IsOutside 1024 P.start i → IsOutside (large_place 0) (large_place 21) i →
      get_or y i 0 ≡ get_or x i 0
  low_byte i below outside beside = changes.bytes i outside (λ may. no may beside)
    where
      no : MayChange P from to i → IsOutside (large_place 0) (large_place 21) i → ⊥
      no (inl front) (inl lt) = omega (arith, front.0, lt)
      no (inl front) (inr ge) = omega (arith, front.1, ge)
      no (inr (inl gap)) out = omega (arith, gap.0, below, order.first)
      no (inr (inr link)) out =
          elim link.at [
            | inl next ↦ omega (
              arith,
              next.0,
              below,
              (at_block P from to tiles link.words link.addr
                  (free_of P from to tiles link.words link.addr link.free)).first,
            )
            | inr back ↦ omega (
              arith,
              back.0,
              below,
              (at_block P from to tiles link.words link.addr
                  (free_of P from to tiles link.words link.addr link.free)).first,
            )
          ]

  -- a byte of a block that is not one of its links
  kept_byte : (w a i : ℕ) → 0 < count_by (is_of w a) P.large → a - 16 ≤ i → i < a + 8 * w + 16 →
      (IsFree P w a → ((i < a - 8) ⊎ (a + 8 * w + 8 ≤ i))) → get_or y i 0 ≡ get_or x i 0
  kept_byte w a i some ge lt frame = changes.bytes i (inr (omega (arith, ge, block.first, order.small, order.order)))
      no
    where
      block : IsBeside P.high P.end from to w a P.large
      block = at_block P from to tiles w a some

      at_own : (i < a - 8) ⊎ (a + 8 * w + 8 ≤ i) →
          ((a - 8 ≤ i) × (i < a)) ⊎ ((a + 8 * w ≤ i) × (i < a + 8 * w + 8)) → ⊥
      at_own (inl before) (inl next) = omega (arith, before, next.0)
      at_own (inl before) (inr back) = omega (arith, before, back.0)
      at_own (inr behind) (inl next) = omega (arith, behind, next.1)
      at_own (inr behind) (inr back) = omega (arith, behind, back.1)

      at_other : (w' a' : ℕ) → (a' + 8 * w' + 32 ≤ a) ⊎ (a + 8 * w + 32 ≤ a') →
          ((a' - 8 ≤ i) × (i < a')) ⊎ ((a' + 8 * w' ≤ i) × (i < a' + 8 * w' + 8)) → ⊥
      at_other w' a' (inl below) (inl next) = omega (arith, ge, below, next.1, block.first)
      at_other w' a' (inl below) (inr back) = omega (arith, ge, below, back.1, block.first)
      at_other w' a' (inr above) (inl next) = omega (arith, lt, above, next.0)
      at_other w' a' (inr above) (inr back) = omega (arith, lt, above, back.0)

      no : MayChange P from to i → ⊥
      no (inl front) = omega (arith, ge, front.1, block.first, order.control, order.small, order.order)
      no (inr (inl gap)) = elim block.side [
        | inl below ↦ omega (arith, gap.0, lt, below)
        | inr above ↦ omega (arith, gap.1, ge, above)
      ]
      no (inr (inr link)) =
          elim (one_or_apart P from to tiles w a link.words link.addr some
          (free_of P from to tiles link.words link.addr link.free)) [
            | inl same ↦
                at_own (frame (subst (λ (n : ℕ). IsFree P n a) same.1
                (subst (λ (n : ℕ). IsFree P link.words n) same.0 link.free)))
                (subst (λ (n : ℕ). ((a - 8 ≤ i) × (i < a)) ⊎ ((a + 8 * n ≤ i) × (i < a + 8 * n + 8))) same.1
                (subst (λ (n : ℕ). ((n - 8 ≤ i) × (i < n))
                ⊎ ((n + 8 * link.words ≤ i) × (i < n + 8 * link.words + 8))) same.0 link.at))
            | inr apart ↦ at_other link.words link.addr apart link.at
          ]

  -- the leader of a block
  leader_byte : (w a : ℕ) → 0 < count_by (is_of w a) P.large → (i : ℕ) → a - 16 ≤ i → i < a - 16 + 8 →
      get_or y i 0 ≡ get_or x i 0
  leader_byte w a some i ge lt =
      let block = at_block P from to tiles w a some in
      kept_byte w a i some ge (omega (arith, lt, block.first)) (λ free. inl (omega (
        arith,
        lt,
        block.first,
        order.control,
        order.small,
        order.order,
      )))

  pub leaders_kept : (w a : ℕ) → 0 < count_by (is_of w a) P.large → leader_words (a - 16) y ≡ w
  leaders_kept w a some = leader_words-same (a - 16) x y (leader_byte w a some) ∙ holds.leaders w a some

  last_kept : (w a : ℕ) → 0 < count_by (is_of w a) P.large →
      number_at (a + 8 * w + 8) y ≡ number_at (a + 8 * w + 8) x
  last_kept w a some = number_at-same (a + 8 * w + 8) x y (λ i ge lt.
      kept_byte w a i some (omega (arith, ge)) (omega (arith, lt)) (λ free. inr ge))

  pub free_kept : (w a : ℕ) → IsFree P w a → IsFreeBlock w a y
  free_kept w a free =
      let some = free_of P from to tiles w a free in
      let was = holds.free w a free in
      record {
        kind = leader_kind-same (a - 16) x y (leader_byte w a some) ∙ was.kind;
        length = leader_length-same (a - 16) x y (leader_byte w a some) ∙ was.length;
        last = last_kept w a some ∙ was.last;
      }

  -- a byte of a block in use
  pub used_byte : (w a : ℕ) → 0 < count_by (is_used_of w a) P.large → (i : ℕ) → a - 16 ≤ i → i < a + 8 * w + 16 →
      get_or y i 0 ≡ get_or x i 0
  used_byte w a used i ge lt = kept_byte w a i (used_of P from to tiles w a used) ge lt
      (λ free. absurd (never_both P from to tiles w w a free used))

  pub used_kept : (w a : ℕ) → 0 < count_by (is_used_of w a) P.large → IsUsedBlock w a y
  used_kept w a used =
      let some = used_of P from to tiles w a used in
      let was = holds.used w a used in
      let block = at_block P from to tiles w a some in
      record {
        next = number_at-same (a - 8) x y (λ i ge lt.
            used_byte w a used i (omega (arith, ge)) (omega (arith, lt, block.first))) ∙ was.next;
        before = number_at-same (a + 8 * w) x y (λ i ge lt.
            used_byte w a used i (omega (arith, ge)) (omega (arith, lt))) ∙ was.before;
        last = last_kept w a some ∙ was.last;
      }

  pub used_stays : StaysUsed P 0 x y
  used_stays = record { blocks = λ w a used other i ge lt. used_byte w a used i ge lt }

  -- a control word beside the lists' fronts
  pub control_kept : (p : ℕ) → p + 8 ≤ large_place 0 → number_at p y ≡ number_at p x
  control_kept p below = number_at-same p x y (λ i ge lt.
      low_byte i (omega (arith, lt, below, order.control, order.small, order.order)) (inl (omega (arith, lt, below)))
      (inl (omega (arith, lt, below))))

  -- what lies below stays, where the start bits do
  pub below_stays : ((word : ℕ) → word < 8 * (P.start - 1024) → 8 * word < P.high →
      start_bit word y ≡ start_bit word x) → StaysBelow P.start P.low P.high x y
  below_stays same = record {
    size = changes.size;
    front = λ i lt. low_byte i (omega (arith, lt, order.control, order.small, order.order)) (inl (omega (arith, lt)))
        (inl (omega (arith, lt)));
    lists = λ i ge lt. low_byte i (omega (arith, lt, order.control, order.small, order.order)) (inl (omega (arith, lt)))
        (inl lt);
    control = λ i ge lt. low_byte i (omega (arith, lt, order.control, order.small, order.order)) (inl lt) (inr ge);
    blocks = λ i ge lt. low_byte i (omega (arith, lt, order.order)) (inr ge)
        (inr (omega (arith, ge, order.control)));
    bits = same;
  }
