-- Bytes that change inside of a block in use.
use Rattle.std.proofs.Common.{◌≡◌, ◌≢◌, ◌≤◌, ◌<◌, inl, inr, ℕ, ◌+◌, ◌-◌, ◌*◌, ◌/◌}
use Rattle.std.proofs.Common.{List, length, get_or, refl, sym, ◌∙◌, arith, subst}
use Rattle.std.specs.List.{count_by}
use Rattle.std.proofs.lemmas.Bool.{cases_eq}
use Rattle.sdr_base.specs.KeptLarge.{KeepsLarge, is_used_of}
use Rattle.sdr_base.specs.KeptPools.{IsOutside, KeepsSmall, StaysBeside, list_place}
use Rattle.sdr_base.specs.Pools.{Pools, is_of, is_free_of}
use Rattle.sdr_base.specs.Stored.{leader_words}
use Rattle.sdr_base.proofs.KeptPoolsLemmas.{ChainFrom-moved, IsBlock, IsInOrder, in_order, is_block, free_is, listed_is}
use Rattle.sdr_base.proofs.PoolsLemmas.{apart, free-used-le-at}
use Rattle.sdr_base.proofs.StartBitsLemmas.{start_bit-same}
use Rattle.sdr_base.proofs.StoredLemmas.{number_at-same, leader_kind-same, leader_words-same, leader_length-same}
use Rattle.sdr_large.proofs.BothPoolsLemmas.{SameLarge}
use Rattle.sdr_large.proofs.PlacesLemmas.{used_of-le-at, used_of-le-of}
use Rattle.sdr_heap.proofs.BesideLemmas.{UsedStay}
use Rattle.sdr_heap.proofs.UsedLemmas.{small_at}
use Rattle.sdr_heap.proofs.SmallChangeLemmas.{ChangesSmall, small_large, small_stay}

-- all stays but the kind and the length in a leader, and so many words at an address
pub record ChangesInside (place words addr : ℕ) (x y : List ℕ) : Type 0 where
  pub size : length y ≡ length x
  pub leader : leader_words place y ≡ leader_words place x
  pub bytes : (i : ℕ) → IsOutside place (place + 8) i → IsOutside addr (addr + 8 * words) i →
      get_or y i 0 ≡ get_or x i 0

-- the same pools are kept, and the other blocks in use stay
pub record StaysKept (P : Pools) (addr : ℕ) (x y : List ℕ) : Type 0 where
  pub small : KeepsSmall y P
  pub large : KeepsLarge y P
  pub others : UsedStay P P addr x y

-- a small block
module _ (x y : List ℕ) (P : Pools) (words addr : ℕ) (small : KeepsSmall x P) (large : KeepsLarge x P)
    (used : 0 < count_by (is_used_of words addr) P.small) (change : ChangesInside (addr - 8) words addr x y) where
  o : IsInOrder x P
  o = in_order x P small

  b : IsBlock x P words addr
  b = small_at x P small words addr used

  of : 0 < count_by (is_of words addr) P.small
  of = omega (arith, used, used_of-le-of words addr P.small)

  out : (i : ℕ) → IsOutside (addr - 8) (addr + 8 * words) i → get_or y i 0 ≡ get_or x i 0
  out i (inl lt) = change.bytes i (inl lt) (inl (omega (arith, lt)))
  out i (inr ge) = change.bytes i (inr (omega (arith, ge, b.first))) (inr ge)

  front : (i : ℕ) → i < P.start → get_or y i 0 ≡ get_or x i 0
  front i lt = out i (inl (omega (arith, lt, b.first)))

  -- a byte of another block or its leader
  other : (w a : ℕ) → 0 < count_by (is_of w a) P.small → a ≢ addr → (i : ℕ) → a - 8 ≤ i → i < a + 8 * w →
      get_or y i 0 ≡ get_or x i 0
  other w a some differ i ge lt = elim (apart P.start P.low words addr w a P.small small.tiles.follow of some differ) [
    | inl below ↦ out i (inl (omega (arith, below, lt)))
    | inr above ↦ out i (inr (omega (arith, above, ge)))
  ]

  -- a byte of a free block or its leader
  free : (w a : ℕ) → 0 < count_by (is_free_of w a) P.small → (i : ℕ) → a - 8 ≤ i → i < a + 8 * w →
      get_or y i 0 ≡ get_or x i 0
  free w a some i ge lt = other w a (free_is P w a some) (λ is.
      omega (
        arith,
        subst (λ (n : ℕ). 0 < count_by (is_free_of w n) P.small) is some,
        used,
        used_of-le-at words addr P.small,
        free-used-le-at w addr P.small,
        b.once,
      )) i ge lt

  small_inside : KeepsSmall y P
  small_inside = record {
    tiles = small.tiles;
    size = change.size ∙ small.size;
    region = number_at-same 0 x y (λ i ge lt. front i (omega (arith, lt, o.control))) ∙ small.region;
    start = number_at-same 8 x y (λ i ge lt. front i (omega (arith, lt, o.control))) ∙ small.start;
    low = number_at-same 16 x y (λ i ge lt. front i (omega (arith, lt, o.control))) ∙ small.low;
    high = number_at-same 24 x y (λ i ge lt. front i (omega (arith, lt, o.control))) ∙ small.high;
    lists = λ w some few.
        ChainFrom-moved x y (list_place w) (list_place w) (P.small_lists w)
        (number_at-same (list_place w) x y (λ i ge lt. front i (omega (arith, lt, few, o.control))))
        (λ a there.
        let is = listed_is x P w a small there in
        let at = is_block x P w a small (free_is P w a is) in
        number_at-same a x y (λ i ge lt. free w a is i (omega (arith, ge)) (omega (arith, lt, at.some))))
        (small.lists w some few);
    leaders = λ w a some. elim (cases_eq a addr) [
      | inl is ↦
          subst (λ (n : ℕ). leader_words (n - 8) y ≡ w) (sym is)
          (change.leader ∙ subst (λ (n : ℕ). leader_words (n - 8) x ≡ w) is (small.leaders w a some))
      | inr differ ↦
          let at = is_block x P w a small some in
          leader_words-same (a - 8) x y (λ i ge lt. other w a some differ i ge (omega (arith, lt, at.first, at.some)))
          ∙ small.leaders w a some
    ];
    kinds = λ w a some.
        let at = is_block x P w a small (free_is P w a some) in
        leader_kind-same (a - 8) x y (λ i ge lt. free w a some i ge (omega (arith, lt, at.first, at.some)))
        ∙ small.kinds w a some;
    lengths = λ w a some.
        let at = is_block x P w a small (free_is P w a some) in
        leader_length-same (a - 8) x y (λ i ge lt. free w a some i ge (omega (arith, lt, at.first, at.some)))
        ∙ small.lengths w a some;
    bits = λ word within below.
        start_bit-same word x y (front (1024 + word / 8) (omega (arith, within))) ∙ small.bits word within below;
  }

  stays : StaysBeside P.start addr words x y
  stays = record {
    size = change.size;
    bytes = λ i _ _ _ outside. out i outside;
    bits = λ word within _. start_bit-same word x y (front (1024 + word / 8) (omega (arith, within)));
  }

  same : SameLarge P P
  same = record { start = refl; end = refl; high = refl; large = refl; large_lists = refl }

  changes : ChangesSmall P P words addr x y
  changes = record {
    keeps = small_inside;
    same = same;
    first = b.first;
    last = omega (arith, b.last, o.order);
    stays = stays;
    others = record { of = λ w a differ. refl; used = λ a differ. refl };
    lies = record {
      apart = λ w a differ used'.
          apart P.start P.low w a words addr P.small small.tiles.follow
          (omega (arith, used', used_of-le-of w a P.small)) of (λ is. differ (sym is));
    };
  }

  -- a change inside of a small block in use
  pub small_stays_kept : StaysKept P addr x y
  small_stays_kept = record {
    small = small_inside;
    large = small_large P P words addr x y small large changes;
    others = small_stay P P words addr x y small large changes;
  }
