-- A loose block that is joined with its neighbours and put back: the pools tile.
use Rattle.std.proofs.Common.{◌≡◌, ◌≢◌, ◌≤◌, ◌<◌, inl, inr, ℕ, ◌+◌, ◌-◌, ◌*◌, Bool, true, false, not, cond, ◌&&◌, ◌==◌}
use Rattle.std.proofs.Common.{List, refl, sym, ap, arith, subst}
use Rattle.std.specs.Prelude.{Option, Some, None}
use Rattle.std.specs.List.{count_by, find}
use Rattle.std.proofs.lemmas.Bool.{cases_Bool, ne_eqb, eqb-true, eqb-false, and_parts}
use Rattle.sdr_base.specs.Pools.{PoolBlock, Pools, IsUsed, is_at, is_of, is_free_of}
use Rattle.sdr_base.specs.SmallPool.{words_at}
use Rattle.sdr_base.specs.LargePool.{without, with_unlinked, with_free_large}
use Rattle.sdr_base.specs.LargeGiving.{Loose, loosened, is_free_at, is_free_below, with_below, with_above, large_freed}
use Rattle.sdr_base.specs.KeptLarge.{TilesLarge, ListsFree}
use Rattle.sdr_base.proofs.PoolsLemmas.{count_by-le, free-used-le-at, is_of-true}
use Rattle.sdr_base.proofs.SmallPoolLemmas.{words_at-is}
use Rattle.sdr_large.specs.Gap.{TilesAround, IsFree}
use Rattle.sdr_large.specs.Giving.{IsLoose, StandsAlone}
use Rattle.sdr_large.proofs.BlocksLemmas.{without-le}
use Rattle.sdr_large.proofs.GapLemmas.{put_or_was, not_put}
use Rattle.sdr_large.proofs.ListsLemmas.{lists_unlinked, lists_loosened}
use Rattle.sdr_large.proofs.NeighbourLemmas.{find-none, find-some, IsThere, below_says, above_says, free_of-le-below}
use Rattle.sdr_large.proofs.PartedLemmas.{IsBeside, opened, closed, raised, widened_below, widened_above}
use Rattle.sdr_large.proofs.PlacesLemmas.{in_order, at_block, free_of}
use Rattle.sdr_large.proofs.TilesLemmas.{bounds_of, one_at, tiles_free}
use Rattle.sdr_large.proofs.WalkLemmas.{tiles_whole}

middle_out : (a b c : Bool) → cond (a && b && c) 1 0 ≤ cond (a && c) 1 0
middle_out true true true = omega arith
middle_out true true false = omega arith
middle_out true false c = omega arith
middle_out false b c = omega arith

-- a free block of so many words is a free block at its address
pub free_of-le-at : (w a : ℕ) (bs : List PoolBlock) → count_by (is_free_of w a) bs ≤ count_by (is_free_at a) bs
free_of-le-at w a bs = count_by-le _ _ (λ b. middle_out (is_at a b) (b.words == w) (not b.used)) bs

-- a block that was in use leaves a gap
module _ (P : Pools) (addr : ℕ) (tiles : TilesLarge P) (used : IsUsed P.large addr) where
  abbrev pub words : ℕ
  words = words_at addr P.large

  pub there : 0 < count_by (is_of words addr) P.large
  there = words_at-is addr P.large used.used

  pub block : IsBeside P.high P.end P.end P.end words addr P.large
  block = at_block P P.end P.end (tiles_whole P tiles) words addr there

  pub loosened_is : IsLoose (loosened P addr) (addr - 16) (addr + 8 * words + 16)
  loosened_is = record {
    at = omega (arith, block.first);
    ends = omega (arith, block.first);
    some = block.some;
    tiles = record {
      bounds = bounds_of P (loosened P addr).pools refl refl refl refl tiles.bounds;
      least = tiles.least;
      whole = (tiles_whole P tiles).whole;
      parted = opened P.high P.end words addr P.large tiles.follow there;
      lists = lists_loosened P addr tiles.lists (λ w. omega (
        arith,
        used.used,
        block.once,
        free-used-le-at w addr P.large,
      ));
    };
    apart = λ w b some. omega (
      arith,
      without-le (is_free_at (b + 8 * (4 + w))) addr P.large,
      tiles.apart w b (omega (arith, some, without-le (is_free_of w b) addr P.large)),
    );
    edge = omega (arith, tiles.edge, without-le (is_free_at (P.high + 16)) addr P.large);
  }

module _ (loose : Loose) (from to : ℕ) (is : IsLoose loose from to) where
  abbrev P : Pools
  P = loose.pools

  -- without a free block that touches the gap
  unlinked_lists : (d : PoolBlock) → IsFree P d.words d.addr → ListsFree (with_unlinked P d.addr d.words)
  unlinked_lists d free = lists_unlinked P d.words d.addr is.tiles.lists free (one_at P from to is.tiles)

  apart : (d : PoolBlock) (w b : ℕ) → 0 < count_by (is_free_of w b) (without d.addr P.large) →
      count_by (is_free_at (b + 8 * (4 + w))) (without d.addr P.large) ≡ 0
  apart d w b some = omega (
    arith,
    without-le (is_free_at (b + 8 * (4 + w))) d.addr P.large,
    is.apart w b (omega (arith, some, without-le (is_free_of w b) d.addr P.large)),
  )

  edge : (d : PoolBlock) → count_by (is_free_at (P.high + 16)) (without d.addr P.large) ≡ 0
  edge d = omega (arith, is.edge, without-le (is_free_at (P.high + 16)) d.addr P.large)

  below_test : (d : PoolBlock) → is_free_below loose.addr d ≡ true → d.used ≡ false
  below_test d passes = (below_says loose.addr d passes).1

  above_test : (d : PoolBlock) → is_free_at (loose.addr + 8 * (4 + loose.words)) d ≡ true → d.used ≡ false
  above_test d passes = (above_says (loose.addr + 8 * (4 + loose.words)) d passes).1

  pub below_there : (d : PoolBlock) → find (is_free_below loose.addr) P.large ≡ Some d →
      IsThere (is_free_below loose.addr) P.large d
  below_there d found = find-some (is_free_below loose.addr) below_test P.large d found

  pub above_there : (d : PoolBlock) → find (is_free_at (loose.addr + 8 * (4 + loose.words))) P.large ≡ Some d →
      IsThere (is_free_at (loose.addr + 8 * (4 + loose.words))) P.large d
  above_there d found = find-some (is_free_at (loose.addr + 8 * (4 + loose.words))) above_test P.large d found

  -- where the block below ends
  pub below_ends : (d : PoolBlock) → find (is_free_below loose.addr) P.large ≡ Some d → d.addr + 8 * d.words + 16 ≡ from
  below_ends d found = omega (arith, (below_says loose.addr d (below_there d found).passes).0, is.at)

  -- and where the one above begins
  pub above_begins : (d : PoolBlock) → find (is_free_at (loose.addr + 8 * (4 + loose.words))) P.large ≡ Some d →
      d.addr ≡ to + 16
  above_begins d found =
      omega (
        arith,
        (above_says (loose.addr + 8 * (4 + loose.words)) d (above_there d found).passes).0,
        is.at,
        is.ends,
      )

  place : (d : PoolBlock) → IsFree P d.words d.addr → IsBeside P.high P.end from to d.words d.addr P.large
  place d free = at_block P from to is.tiles d.words d.addr (free_of P from to is.tiles d.words d.addr free)

  -- where the gap begins then
  abbrev pub from_below : Option PoolBlock → ℕ
  from_below None = from
  from_below (Some d) = d.addr - 16

  pub below_is : (o : Option PoolBlock) → find (is_free_below loose.addr) P.large ≡ o →
      IsLoose (with_below o loose) (from_below o) to
  below_is None found = is
  below_is (Some d) found =
      let free = (below_there d found).free in
      let ends = below_ends d found in
      let b = place d free in
      record {
        at = omega (arith, b.first);
        ends = omega (arith, b.first, ends, is.ends);
        some = omega arith;
        tiles = record {
          bounds = bounds_of P (with_unlinked P d.addr d.words) refl refl refl refl is.tiles.bounds;
          least = is.tiles.least;
          whole = is.tiles.whole;
          parted = widened_below P.high P.end from to P.large is.tiles.parted d.words d.addr
              (free_of P from to is.tiles d.words d.addr free) ends;
          lists = unlinked_lists d free;
        };
        apart = apart d;
        edge = edge d;
      }

  pub below_alone : (o : Option PoolBlock) → find (is_free_below loose.addr) P.large ≡ o →
      count_by (is_free_below (with_below o loose).addr) (with_below o loose).pools.large ≡ 0
  below_alone None found = find-none (is_free_below loose.addr) P.large found
  below_alone (Some d) found =
      omega (
        arith,
        without-le (is_free_below d.addr) d.addr P.large,
        none (find (is_free_below d.addr) P.large) refl,
      )
    where
      none : (o : Option PoolBlock) → find (is_free_below d.addr) P.large ≡ o →
          count_by (is_free_below d.addr) P.large ≡ 0
      none None nothing = find-none (is_free_below d.addr) P.large nothing
      none (Some e) other =
          let t = find-some (is_free_below d.addr) (λ b passes. (below_says d.addr b passes).1) P.large e other in
          absurd (omega (
            arith,
            is.apart e.words e.addr t.free,
            ap (λ (n : ℕ). count_by (is_free_at n) P.large) (below_says d.addr e t.passes).0,
            free_of-le-at d.words d.addr P.large,
            (below_there d found).free,
          ))

  abbrev pub to_above : Option PoolBlock → ℕ
  to_above None = to
  to_above (Some d) = d.addr + 8 * d.words + 16

  pub above_is : (o : Option PoolBlock) → find (is_free_at (loose.addr + 8 * (4 + loose.words))) P.large ≡ o →
      IsLoose (with_above o loose) from (to_above o)
  above_is None found = is
  above_is (Some d) found =
      let free = (above_there d found).free in
      let begins = above_begins d found in
      record {
        at = is.at;
        ends = omega (arith, begins, is.ends);
        some = omega (arith, is.some);
        tiles = record {
          bounds = bounds_of P (with_unlinked P d.addr d.words) refl refl refl refl is.tiles.bounds;
          least = is.tiles.least;
          whole = is.tiles.whole;
          parted = widened_above P.high P.end from to P.large is.tiles.parted d.words d.addr
              (free_of P from to is.tiles d.words d.addr free) begins;
          lists = unlinked_lists d free;
        };
        apart = apart d;
        edge = edge d;
      }

  pub above_alone : (o : Option PoolBlock) → find (is_free_at (loose.addr + 8 * (4 + loose.words))) P.large ≡ o →
      count_by (is_free_below loose.addr) P.large ≡ 0 → StandsAlone (with_above o loose)
  above_alone None found below = record {
    below = below;
    above = find-none (is_free_at (loose.addr + 8 * (4 + loose.words))) P.large found;
  }
  above_alone (Some d) found below = record {
    below = omega (arith, below, without-le (is_free_below loose.addr) d.addr P.large);
    above = omega (
      arith,
      without-le (is_free_at (loose.addr + 8 * (4 + (loose.words + 4 + d.words)))) d.addr P.large,
      is.apart d.words d.addr (above_there d found).free,
      ap (λ (n : ℕ). count_by (is_free_at n) P.large) same,
    );
  }
    where
      same : loose.addr + 8 * (4 + (loose.words + 4 + d.words)) ≡ d.addr + 8 * (4 + d.words)
      same = omega (arith, above_begins d found, is.at, is.ends)

  abbrev as_free : PoolBlock
  as_free = record { addr = loose.addr; words = loose.words; used = false }

  -- as a free block
  freed : loose.addr ≢ P.high + 16 → StandsAlone loose → TilesLarge (with_free_large P loose.addr loose.words)
  freed differ alone =
      let t = subst (λ (a : ℕ). TilesAround (with_free_large P a loose.words) (from + 8 * (4 + loose.words)) to)
      (sym is.at) (tiles_free P from to loose.words is.tiles is.some (omega (arith, is.ends))) in
      record {
        bounds = t.bounds;
        least = t.least;
        follow = closed P.high P.end (from + 8 * (4 + loose.words)) to (with_free_large P loose.addr loose.words).large
            t.parted is.ends;
        lists = t.lists;
        apart = λ w b some. elim (put_or_was (is_free_of w b) as_free P.large some) [
          | inl new ↦
              let same = is_of-true w b as_free (and_parts (is_of w b as_free) true new).0 in
              omega (
                arith,
                not_put (is_free_at (b + 8 * (4 + w))) as_free P.large
                    (elsewhere (b + 8 * (4 + w)) (λ ends. omega (arith, ends, same.0))),
                alone.above,
                ap (λ (n : ℕ). count_by (is_free_at n) P.large) (ends_there w b same.0 same.1),
              )
          | inr was ↦ omega (
            arith,
            not_put (is_free_at (b + 8 * (4 + w))) as_free P.large (elsewhere (b + 8 * (4 + w)) (not_below w b was)),
            is.apart w b was,
          )
        ];
        edge = omega (
          arith,
          not_put (is_free_at (P.high + 16)) as_free P.large (elsewhere (P.high + 16) (λ same. differ (sym same))),
          is.edge,
        );
      }
    where
      elsewhere : (n : ℕ) → n ≢ loose.addr → is_free_at n as_free ≡ false
      elsewhere n apart_from = ap (λ (v : Bool). v && true) (ne_eqb loose.addr n (λ same. apart_from (sym same)))

      ends_there : (w b : ℕ) → loose.addr ≡ b → loose.words ≡ w → b + 8 * (4 + w) ≡ loose.addr + 8 * (4 + loose.words)
      ends_there w b at is_words = omega (arith, at, is_words)

      not_below : (w b : ℕ) → IsFree P w b → b + 8 * (4 + w) ≢ loose.addr
      not_below w b free ends = omega (
        arith,
        free,
        alone.below,
        free_of-le-below w b loose.addr P.large ends,
      )

  -- as unassigned space
  unassigned : loose.addr ≡ P.high + 16 → StandsAlone loose →
      TilesLarge (record P { high = loose.addr - 16 + 8 * (4 + loose.words) })
  unassigned same alone =
      let o = in_order P from to is.tiles in
      let up : loose.addr - 16 + 8 * (4 + loose.words) ≡ to = omega (arith, is.at, is.ends) in
      subst (λ (h : ℕ). TilesLarge (record P { high = h })) (sym up) (record {
        bounds = record {
          region = is.tiles.bounds.region;
          start = is.tiles.bounds.start;
          order = omega (arith, o.order, o.first, o.gap);
          end = o.second;
        };
        least = is.tiles.least;
        follow = raised P.high P.end from to P.large is.tiles.parted (omega (arith, same, is.at));
        lists = record { listed = is.tiles.lists.listed };
        apart = is.apart;
        edge = omega (
          arith,
          alone.above,
          ap (λ (n : ℕ). count_by (is_free_at n) P.large) (end_is),
        );
      })
    where
      end_is : loose.addr + 8 * (4 + loose.words) ≡ to + 16
      end_is = omega (arith, is.at, is.ends)

  pub large_freed-tiles : StandsAlone loose → TilesLarge (large_freed loose)
  large_freed-tiles alone = elim (cases_Bool (loose.addr == P.high + 16)) [
    | inl same ↦
        subst (λ (v : Bool). TilesLarge (cond v (record P { high = loose.addr - 16 + 8 * (4 + loose.words) })
        (with_free_large P loose.addr loose.words))) (sym same)
        (unassigned (eqb-true loose.addr (P.high + 16) same) alone)
    | inr differ ↦
        subst (λ (v : Bool). TilesLarge (cond v (record P { high = loose.addr - 16 + 8 * (4 + loose.words) })
        (with_free_large P loose.addr loose.words))) (sym differ)
        (freed (eqb-false loose.addr (P.high + 16) differ) alone)
  ]
