-- A change of one small block leaves the other blocks in use, and the large pool.
use Rattle.std.proofs.Common.{◌≡◌, ◌≢◌, ◌≤◌, ◌<◌, ◌⊎◌, inl, inr, ℕ, ◌+◌, ◌-◌, ◌*◌}
use Rattle.std.proofs.Common.{Bool, List, get_or, sym, ap, ◌∙◌, arith, subst}
use Rattle.std.specs.List.{count_by}
use Rattle.sdr_base.specs.KeptLarge.{KeepsLarge, is_used_of}
use Rattle.sdr_base.specs.KeptPools.{KeepsSmall, IsOutside, StaysBeside}
use Rattle.sdr_base.specs.Pools.{PoolBlock, Pools, is_of, is_used_at}
use Rattle.sdr_base.specs.SmallPool.{with_used}
use Rattle.sdr_base.proofs.KeptPoolsLemmas.{IsInOrder, in_order, is_block, large_stays}
use Rattle.sdr_base.proofs.PoolsLemmas.{apart, at-once}
use Rattle.sdr_base.proofs.SmallPoolLemmas.{of-with_used, used-with_used_other}
use Rattle.sdr_large.proofs.BothPoolsLemmas.{SameLarge, large_kept}
use Rattle.sdr_large.proofs.PlacesLemmas.{used_of-le-at, used_of-le-of}
use Rattle.sdr_heap.proofs.BesideLemmas.{UsedStay}
use Rattle.sdr_heap.proofs.UsedLemmas.{small_at, large_at, used_of_both}

-- the small blocks but the one at an address are the same, and those in use
pub record SameOthers (addr : ℕ) (old new : List PoolBlock) : Type 0 where
  pub of : (words other : ℕ) → other ≢ addr → count_by (is_of words other) new ≡ count_by (is_of words other) old
  pub used : (other : ℕ) → other ≢ addr → count_by (is_used_at other) new ≡ count_by (is_used_at other) old

-- a block of so many words, with the leader before it, lies apart from the others in use
pub record LiesApart (words addr : ℕ) (blocks : List PoolBlock) : Type 0 where
  pub apart : (w other : ℕ) → other ≢ addr → 0 < count_by (is_used_of w other) blocks →
      (addr + 8 * words + 8 ≤ other) ⊎ (other + 8 * w + 8 ≤ addr)

-- a block of so many words, below `high`, changed, and all else of the small pool and the bytes stayed
pub record ChangesSmall (P Q : Pools) (words addr : ℕ) (x y : List ℕ) : Type 0 where
  pub keeps : KeepsSmall y Q
  pub same : SameLarge P Q
  pub first : P.start + 8 ≤ addr
  pub last : addr + 8 * words ≤ P.high
  pub stays : StaysBeside P.start addr words x y
  pub others : SameOthers addr P.small Q.small
  pub lies : LiesApart words addr P.small

-- so it is where a block came into use, or is free now
pub used_change : (P Q : Pools) (words addr : ℕ) (used : Bool) (x y : List ℕ) → KeepsSmall x P → KeepsSmall y Q →
    SameLarge P Q → Q.small ≡ with_used addr used P.small → 0 < count_by (is_of words addr) P.small →
    StaysBeside P.start addr words x y → ChangesSmall P Q words addr x y
used_change P Q words addr used x y small small' same is there stays =
    let b = is_block x P words addr small there in
    record {
      keeps = small';
      same = same;
      first = b.first;
      last = omega (arith, b.last, small.tiles.bounds.order);
      stays = stays;
      others = record {
        of = λ w other differ. ap (count_by (is_of w other)) is ∙ of-with_used addr used w other P.small;
        used = λ other differ.
            ap (count_by (is_used_at other)) is ∙ used-with_used_other addr used other P.small differ;
      };
      lies = record {
        apart = λ w other differ used.
            apart P.start P.low w other words addr P.small small.tiles.follow
            (omega (arith, used, used_of-le-of w other P.small)) there (λ e. differ (sym e));
      };
    }

module _ (P Q : Pools) (words addr : ℕ) (x y : List ℕ) (small : KeepsSmall x P) (large : KeepsLarge x P)
    (change : ChangesSmall P Q words addr x y) where
  o : IsInOrder x P
  o = in_order x P small

  -- a byte of another block in use
  other_byte : (w other : ℕ) → other ≢ addr → 0 < count_by (is_used_of w other) P.small → (i : ℕ) → other - 8 ≤ i →
      i < other + 8 * w → get_or y i 0 ≡ get_or x i 0
  other_byte w other differ used i ge lt =
      let b = small_at x P small w other used in
      change.stays.bytes i (inr (omega (arith, ge, b.first, o.control))) (inr (omega (arith, ge, b.first, o.control)))
      (inr (omega (arith, ge, b.first))) (side (change.lies.apart w other differ used))
    where
      side : (addr + 8 * words + 8 ≤ other) ⊎ (other + 8 * w + 8 ≤ addr) → IsOutside (addr - 8) (addr + 8 * words) i
      side (inl below) = inr (omega (arith, below, ge))
      side (inr above) = inl (omega (arith, above, lt))

  -- the blocks in use but the one at the address stay
  pub small_stay : UsedStay P Q addr x y
  small_stay = record {
    blocks = record {
      size = change.stays.size;
      small_was = λ w other differ used. used_of_both w other P.small
          (omega (arith, used, used_of-le-at w other Q.small, change.others.used other differ))
          (omega (arith, used, used_of-le-of w other Q.small, change.others.of w other differ))
          (at-once P.start P.low other P.small small.tiles.follow);
      small_is = λ w other differ used. used_of_both w other Q.small
          (omega (arith, used, used_of-le-at w other P.small, change.others.used other differ))
          (omega (arith, used, used_of-le-of w other P.small, change.others.of w other differ))
          (at-once Q.start Q.low other Q.small change.keeps.tiles.follow);
      small_bytes = other_byte;
      large_was = λ w other differ used.
          subst (λ (l : List PoolBlock). 0 < count_by (is_used_of w other) l) change.same.large used;
      large_is = λ w other differ used.
          subst (λ (l : List PoolBlock). 0 < count_by (is_used_of w other) l) (sym change.same.large) used;
      large_bytes = λ w other differ used i ge lt.
          let b = large_at x P large w other used in
          change.stays.bytes i (inr (omega (arith, ge, b.first, change.first, change.last, o.control)))
          (inr (omega (arith, ge, b.first, change.first, change.last, o.control)))
          (inr (omega (arith, ge, b.first, o.small, o.order)))
          (inr (omega (arith, ge, b.first, change.last)));
    };
    roots = λ i ge lt. change.stays.bytes i (inr (omega (arith, ge))) (inr (omega (arith, ge))) (inl lt)
        (inl (omega (arith, lt, change.first, o.control)));
  }

  -- the large pool is kept
  pub small_large : KeepsLarge y Q
  small_large =
      large_kept P Q x y large
      (large_stays x y P words addr small (omega (arith, change.first)) change.first change.last change.stays)
      change.same change.keeps
