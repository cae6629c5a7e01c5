-- The steps of giving a block back, one after another.
use Rattle.std.proofs.Common.{◌≡◌, ◌≢◌, ◌≤◌, ◌<◌, inl, ℕ, ◌+◌, ◌-◌, ◌*◌, Bool, true, false, cond, ◌==◌}
use Rattle.std.proofs.Common.{List, get_or, refl, ◌∙◌, arith, subst}
use Rattle.std.specs.Prelude.{Option, Some, None}
use Rattle.std.specs.List.{count_by, find}
use Rattle.sdr_base.specs.Pools.{PoolBlock, Pools, IsUsed}
use Rattle.sdr_base.specs.LargePool.{with_free_large}
use Rattle.sdr_base.specs.LargeGiving.{Loose, loosened, is_free_at, is_free_below, with_below, with_above, joined_below, joined_above}
use Rattle.sdr_base.specs.LargeGiving.{large_freed, give_large}
use Rattle.sdr_base.specs.KeptLarge.{HoldsLarge, KeepsLarge, KeepsSomeLarge, is_used_of}
use Rattle.sdr_large.specs.declared.block.Block.{Block}
use Rattle.sdr_large.specs.Calls.{Becomes, KeepsUsedLarge, KeepsOthers, GivesLarge}
use Rattle.sdr_large.specs.Gap.{TilesAround, Steps, StaysBelow}
use Rattle.sdr_large.specs.Giving.{IsLoose, StandsAlone, Names, HoldsLoose, Loosens, JoinsBelow, JoinsAbove, SetsFree}
use Rattle.sdr_large.proofs.BlocksLemmas.{without-other, used_of_is}
use Rattle.sdr_large.proofs.CallsLemmas.{Becomes-others, used_in}
use Rattle.sdr_large.proofs.LooseLemmas.{words, loosened_is, below_is, below_alone, below_there, from_below, above_is}
use Rattle.sdr_large.proofs.LooseLemmas.{above_alone, above_there, to_above, large_freed-tiles}
use Rattle.sdr_large.proofs.StaysLemmas.{below_trans, small_stays, all_used, used_without, used_placed}

-- so far the bytes hold other pools, whose ends are the same, and blocks in use but one stay
pub record IsOnWay (P Q : Pools) (addr : ℕ) (x y : List ℕ) : Type 0 where
  pub start : Q.start ≡ P.start
  pub low : Q.low ≡ P.low
  pub high : Q.high ≡ P.high
  pub holds : HoldsLarge y Q
  pub below : StaysBelow P.start P.low P.high x y
  pub still : (w b : ℕ) → 0 < count_by (is_used_of w b) P.large → b ≢ addr → 0 < count_by (is_used_of w b) Q.large
  pub used : (w b : ℕ) → 0 < count_by (is_used_of w b) P.large → b ≢ addr → (i : ℕ) → b - 16 ≤ i →
      i < b + 8 * w + 16 → get_or y i 0 ≡ get_or x i 0

-- what a step leaves below, in the words of the first pools
below_of : (P Q : Pools) (x y : List ℕ) → Q.start ≡ P.start → Q.low ≡ P.low → Q.high ≡ P.high →
    StaysBelow Q.start Q.low Q.high x y → StaysBelow P.start P.low P.high x y
below_of P Q x y start low high b =
    subst (λ (n : ℕ). StaysBelow P.start P.low n x y) high
    (subst (λ (n : ℕ). StaysBelow P.start n Q.high x y) low
    (subst (λ (n : ℕ). StaysBelow n Q.low Q.high x y) start b))

-- one step more
on_way : (P Q R : Pools) (addr from to : ℕ) (x y z : List ℕ) → IsOnWay P Q addr x y → TilesAround Q from to →
    Steps Q R 0 y z → R.start ≡ Q.start → R.low ≡ Q.low → R.high ≡ Q.high →
    ((w b : ℕ) → 0 < count_by (is_used_of w b) Q.large → 0 < count_by (is_used_of w b) R.large) → IsOnWay P R addr x z
on_way P Q R addr from to x y z way tiles step start low high still = record {
  start = start ∙ way.start;
  low = low ∙ way.low;
  high = high ∙ way.high;
  holds = step.holds;
  below = below_trans P.start P.low P.high x y z way.below
      (below_of P Q y z way.start way.low way.high step.below);
  still = λ w b there differ. still w b (way.still w b there differ);
  used = λ w b there differ i ge lt.
      all_used Q from to y z tiles step.used w b (way.still w b there differ) i ge lt
      ∙ way.used w b there differ i ge lt;
}

module _ (addr : ℕ) (own lower whole : Block) (x a b c y : List ℕ) (P : Pools) (keeps : KeepsLarge x P)
    (used : IsUsed P.large addr) (loose : Loosens addr own x a) where
  abbrev first : Loose
  first = loosened P addr

  is_first : IsLoose first (addr - 16) (addr + 8 * words P addr keeps.tiles used + 16)
  is_first = loosened_is P addr keeps.tiles used

  step_first : Steps P first.pools addr x a
  step_first = (loose.rule P keeps used).1

  way_first : IsOnWay P first.pools addr x a
  way_first = record {
    start = refl;
    low = refl;
    high = refl;
    holds = step_first.holds;
    below = step_first.below;
    still = λ w n there differ. omega (
      arith,
      there,
      without-other (is_used_of w n) n addr P.large (used_of_is w n) differ,
    );
    used = λ w n there differ i ge lt. step_first.used.blocks w n there differ i ge lt;
  }

  -- what joining needs
  pub holds_first : HoldsLoose own a
  holds_first = record {
    loose = first;
    from = addr - 16;
    to = addr + 8 * words P addr keeps.tiles used + 16;
    is = is_first;
    names = (loose.rule P keeps used).0;
    holds = step_first.holds;
  }

  module _ (joins : JoinsBelow own lower a b) where
    abbrev below : Option PoolBlock
    below = find (is_free_below first.addr) first.pools.large

    abbrev second : Loose
    second = joined_below first

    is_second : IsLoose second (from_below first (addr - 16) (addr + 8 * words P addr keeps.tiles used + 16) is_first below)
        (addr + 8 * words P addr keeps.tiles used + 16)
    is_second = below_is first (addr - 16) (addr + 8 * words P addr keeps.tiles used + 16) is_first below refl

    joined_second : Names lower second × Steps first.pools second.pools 0 a b
    joined_second = joins.rule first (addr - 16) (addr + 8 * words P addr keeps.tiles used + 16) is_first
        step_first.holds (loose.rule P keeps used).0

    way_second : IsOnWay P second.pools addr x b
    way_second = go below refl joined_second.1
      where
        go : (o : Option PoolBlock) → below ≡ o → Steps first.pools (with_below o first).pools 0 a b →
            IsOnWay P (with_below o first).pools addr x b
        go None found step = on_way P first.pools first.pools addr (addr - 16)
            (addr + 8 * words P addr keeps.tiles used + 16) x a b way_first is_first.tiles step refl refl refl
            (λ w n there. there)
        go (Some d) found step = on_way P first.pools (with_below (Some d) first).pools addr (addr - 16)
            (addr + 8 * words P addr keeps.tiles used + 16) x a b way_first is_first.tiles step refl refl refl
            (λ w n there. used_without first.pools (addr - 16) (addr + 8 * words P addr keeps.tiles used + 16)
            d.words d.addr w n is_first.tiles
            (below_there first (addr - 16) (addr + 8 * words P addr keeps.tiles used + 16) is_first d found).free there)

    pub holds_second : HoldsLoose lower b
    holds_second = record {
      loose = second;
      from = from_below first (addr - 16) (addr + 8 * words P addr keeps.tiles used + 16) is_first below;
      to = addr + 8 * words P addr keeps.tiles used + 16;
      is = is_second;
      names = joined_second.0;
      holds = way_second.holds;
    }

    module _ (joins_above : JoinsAbove lower whole b c) where
      abbrev lower_from : ℕ
      lower_from = from_below first (addr - 16) (addr + 8 * words P addr keeps.tiles used + 16) is_first below

      abbrev upper_to : ℕ
      upper_to = addr + 8 * words P addr keeps.tiles used + 16

      abbrev above : Option PoolBlock
      above = find (is_free_at (second.addr + 8 * (4 + second.words))) second.pools.large

      abbrev third : Loose
      third = joined_above second

      is_third : IsLoose third lower_from (to_above second lower_from upper_to is_second above)
      is_third = above_is second lower_from upper_to is_second above refl

      alone : StandsAlone third
      alone = above_alone second lower_from upper_to is_second above refl
          (below_alone first (addr - 16) upper_to is_first below refl)

      joined_third : Names whole third × Steps second.pools third.pools 0 b c
      joined_third = joins_above.rule second lower_from upper_to is_second way_second.holds joined_second.0

      way_third : IsOnWay P third.pools addr x c
      way_third = go above refl joined_third.1
        where
          go : (o : Option PoolBlock) → above ≡ o → Steps second.pools (with_above o second).pools 0 b c →
              IsOnWay P (with_above o second).pools addr x c
          go None found step = on_way P second.pools second.pools addr lower_from upper_to x b c way_second
              is_second.tiles step refl refl refl (λ w n there. there)
          go (Some d) found step = on_way P second.pools (with_above (Some d) second).pools addr lower_from upper_to
              x b c way_second is_second.tiles step refl refl refl
              (λ w n there. used_without second.pools lower_from upper_to d.words d.addr w n is_second.tiles
              (above_there second lower_from upper_to is_second d found).free there)

      pub holds_third : HoldsLoose whole c
      holds_third = record {
        loose = third;
        from = lower_from;
        to = to_above second lower_from upper_to is_second above;
        is = is_third;
        names = joined_third.0;
        holds = way_third.holds;
      }

      -- the pools at the end have the same ends below
      put_start : (v : Bool) → (cond v (record third.pools { high = third.addr - 16 + 8 * (4 + third.words) })
          (with_free_large third.pools third.addr third.words)).start ≡ third.pools.start
      put_start true = refl
      put_start false = refl

      put_low : (v : Bool) → (cond v (record third.pools { high = third.addr - 16 + 8 * (4 + third.words) })
          (with_free_large third.pools third.addr third.words)).low ≡ third.pools.low
      put_low true = refl
      put_low false = refl

      put_used_still : (v : Bool) (w n : ℕ) → 0 < count_by (is_used_of w n) third.pools.large →
          0 < count_by (is_used_of w n) (cond v (record third.pools { high = third.addr - 16 + 8 * (4 + third.words) })
          (with_free_large third.pools third.addr third.words)).large
      put_used_still true w n there = there
      put_used_still false w n there =
          used_placed (record { addr = third.addr; words = third.words; used = false }) third.pools.large w n there

      pub given : SetsFree whole c y → Becomes P (give_large P addr) addr x y
      given puts =
          let step = puts.rule third lower_from (to_above second lower_from upper_to is_second above) is_third
          way_third.holds joined_third.0 in
          let tiles = large_freed-tiles third lower_from (to_above second lower_from upper_to is_second above) is_third
          alone in
          record {
            keeps = record { tiles = tiles; holds = step.holds };
            still = λ w n there differ. put_used_still (third.addr == third.pools.high + 16) w n
                (way_third.still w n there differ);
            small = small_stays P (large_freed third) P.high x y
                (below_trans P.start P.low P.high x c y way_third.below
                (below_of P third.pools c y way_third.start way_third.low way_third.high step.below))
                (inl (omega arith)) step.holds tiles.follow
                (put_start (third.addr == third.pools.high + 16) ∙ way_third.start)
                (put_low (third.addr == third.pools.high + 16) ∙ way_third.low) keeps.tiles.bounds.order;
            others = record {
              blocks = λ w n there differ i ge lt.
                  all_used third.pools lower_from (to_above second lower_from upper_to is_second above) c y
                  is_third.tiles step.used w n (way_third.still w n there differ) i ge lt
                  ∙ way_third.used w n there differ i ge lt;
            };
          }

-- after all steps the block is back
pub gives : (addr : ℕ) (own lower whole : Block) (x a b c y : List ℕ) → Loosens addr own x a →
    JoinsBelow own lower a b → JoinsAbove lower whole b c → SetsFree whole c y → GivesLarge addr x y
gives addr own lower whole x a b c y loose below above puts = record {
  rule = λ P keeps used. given addr own lower whole x a b c y P keeps used loose below above puts;
}

-- and the bytes keep a pool
pub GivesLarge-kept : (x y : List ℕ) (addr : ℕ) → KeepsUsedLarge addr x → GivesLarge addr x y → KeepsSomeLarge y
GivesLarge-kept x y addr k gives =
    record { pools = give_large k.pools addr; keeps = (gives.rule k.pools k.keeps k.used).keeps }

-- and the others go on being in use
pub GivesLarge-others : (x y : List ℕ) (addr : ℕ) → KeepsUsedLarge addr x → GivesLarge addr x y → KeepsOthers addr x y
GivesLarge-others x y addr used gives = record {
  still = λ other differ k.
      Becomes-others k.pools (give_large k.pools addr) addr other x y
      (gives.rule k.pools k.keeps (used_in x used.pools k.pools addr used.keeps k.keeps used.used)) k.keeps k.used differ;
}
