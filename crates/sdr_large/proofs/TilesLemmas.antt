-- A pool that tiles with a gap, when a block leaves or comes.
use Rattle.std.proofs.Common.{◌≡◌, ◌≤◌, ◌<◌, ◌⊎◌, inl, inr, ℕ, ◌+◌, ◌-◌, ◌*◌, true, false}
use Rattle.std.proofs.Common.{refl, ◌∙◌, arith}
use Rattle.std.specs.List.{count_by}
use Rattle.sdr_base.specs.Pools.{Pools, HasBounds, is_at}
use Rattle.sdr_base.specs.LargePool.{with_unlinked, with_used_large, with_free_large}
use Rattle.sdr_base.specs.KeptLarge.{TilesLarge}
use Rattle.sdr_large.specs.Gap.{TilesAround, IsParted, IsFree}
use Rattle.sdr_large.proofs.PartedLemmas.{opened, filled, both_sides}
use Rattle.sdr_large.proofs.ListsLemmas.{lists_unlinked, lists_used, lists_pushed}
use Rattle.sdr_large.proofs.FollowsLemmas.{at_first, at_last, at_once}
use Rattle.sdr_large.proofs.PlacesLemmas.{free_of}
use Rattle.sdr_large.proofs.WalkLemmas.{tiles_whole}

-- the bounds don't tell of blocks
pub bounds_of : (P Q : Pools) → Q.start ≡ P.start → Q.end ≡ P.end → Q.low ≡ P.low → Q.high ≡ P.high → HasBounds P →
    HasBounds Q
bounds_of P Q start end low high b = record {
  region = record {
    lines = b.region.lines;
    whole = end ∙ b.region.whole;
    least = b.region.least;
    most = b.region.most;
  };
  start = omega (arith, start, end, b.start);
  order = omega (arith, low, high, b.order);
  end = omega (arith, high, end, b.end);
}

-- an address is that of one block at most
pub one_at : (P : Pools) (from to : ℕ) → TilesAround P from to → (at : ℕ) → count_by (is_at at) P.large ≤ 1
one_at P from to tiles at = elim (sides) [
  | inl below ↦ omega (
    arith,
    both_sides P.high P.end from to P.large p (is_at at),
    at_once P.high from at p.below p.first,
    at_first to P.end at p.above p.second below,
  )
  | inr above ↦ omega (
    arith,
    both_sides P.high P.end from to P.large p (is_at at),
    at_last P.high from at p.below p.first (omega (arith, above, p.gap)),
    at_once to P.end at p.above p.second,
  )
]
  where
    p : IsParted P.high P.end P.large from to
    p = tiles.parted

    sides : (at < to + 16) ⊎ (to + 16 ≤ at)
    sides = grind arith

-- a free block that leaves opens a gap
pub tiles_unlinked : (P : Pools) (words addr : ℕ) → TilesLarge P → IsFree P words addr →
    TilesAround (with_unlinked P addr words) (addr - 16) (addr + 8 * words + 16)
tiles_unlinked P words addr tiles free =
    let t = tiles_whole P tiles in
    record {
      bounds = bounds_of P (with_unlinked P addr words) refl refl refl refl tiles.bounds;
      least = tiles.least;
      whole = t.whole;
      parted = opened P.high P.end words addr P.large tiles.follow (free_of P P.end P.end t words addr free);
      lists = lists_unlinked P words addr tiles.lists free (one_at P P.end P.end t);
    }

-- a block in use narrows the gap
pub tiles_used : (P : Pools) (from to words : ℕ) → TilesAround P from to → 1 ≤ words → from + 8 * (4 + words) ≤ to →
    TilesAround (with_used_large P (from + 16) words) (from + 8 * (4 + words)) to
tiles_used P from to words tiles some fits = record {
  bounds = bounds_of P (with_used_large P (from + 16) words) refl refl refl refl tiles.bounds;
  least = tiles.least;
  whole = tiles.whole;
  parted = filled P.high P.end from to words true P.large tiles.parted some fits;
  lists = lists_used P words (from + 16) tiles.lists;
}

-- so does a free one
pub tiles_free : (P : Pools) (from to words : ℕ) → TilesAround P from to → 1 ≤ words → from + 8 * (4 + words) ≤ to →
    TilesAround (with_free_large P (from + 16) words) (from + 8 * (4 + words)) to
tiles_free P from to words tiles some fits = record {
  bounds = bounds_of P (with_free_large P (from + 16) words) refl refl refl refl tiles.bounds;
  least = tiles.least;
  whole = tiles.whole;
  parted = filled P.high P.end from to words false P.large tiles.parted some fits;
  lists = lists_pushed P words (from + 16) tiles.lists;
}
