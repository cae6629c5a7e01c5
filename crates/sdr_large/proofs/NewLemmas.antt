-- A new block at the end of the unassigned space.
use Rattle.std.proofs.Common.{◌≡◌, ◌≤◌, ◌<◌, inl, inr, ℕ, ◌+◌, ◌-◌, ◌*◌, ◌^◌, Bool, true, false, not, cond, ◌&&◌, ◌==◌}
use Rattle.std.proofs.Common.{List, refl, sym, ap, ◌∙◌, arith, subst}
use Rattle.std.specs.Prelude.{Option, Some, None, nat_lt}
use Rattle.std.specs.List.{count_by}
use Rattle.std.proofs.lemmas.Bool.{eq-eqb, lt-ltb, le-ltb}
use Rattle.sdr_base.specs.Pools.{PoolBlock, Pools, is_at, is_of, is_free_of, is_used_at}
use Rattle.sdr_base.specs.SmallPool.{Taken}
use Rattle.sdr_base.specs.LargeGiving.{is_free_at}
use Rattle.sdr_base.specs.LargePool.{with_used_large, with_new_large, take_found}
use Rattle.sdr_base.specs.KeptLarge.{TilesLarge, HoldsLarge, KeepsLarge, KeepsSomeLarge}
use Rattle.sdr_base.specs.Stored.{number_at, with_number}
use Rattle.sdr_base.proofs.PoolsLemmas.{count_by-le}
use Rattle.sdr_large.specs.Calls.{TakesBlock, TakesBy, TakesNew}
use Rattle.sdr_large.specs.Gap.{TilesAround, Steps}
use Rattle.sdr_large.specs.Steps.{HoldsGap, PutsUsed}
use Rattle.sdr_large.proofs.BlocksLemmas.{count_by-with_placed}
use Rattle.sdr_large.proofs.FollowsLemmas.{at_first}
use Rattle.sdr_large.proofs.GapLemmas.{put_or_was, not_put}
use Rattle.sdr_large.proofs.HighLemmas.{high_holds, high_below, high_used}
use Rattle.sdr_large.proofs.PartedLemmas.{lowered, closed}
use Rattle.sdr_large.proofs.PlacesLemmas.{InOrder, in_order}
use Rattle.sdr_large.proofs.StaysLemmas.{below_trans, small_stays, used_placed, all_used}
use Rattle.sdr_large.proofs.TilesLemmas.{tiles_used}
use Rattle.sdr_large.proofs.WalkLemmas.{tiles_whole}

-- a free block at an address is a block there
free_at-le-at : (addr : ℕ) (bs : List PoolBlock) → count_by (is_free_at addr) bs ≤ count_by (is_at addr) bs
free_at-le-at addr bs = count_by-le _ _ (λ b. left_only (is_at addr b) (not b.used)) bs
  where
    left_only : (a b : Bool) → cond (a && b) 1 0 ≤ cond a 1 0
    left_only true true = omega arith
    left_only true false = omega arith
    left_only false b = omega arith

module _ (x : List ℕ) (words : ℕ) (P : Pools) (keeps : KeepsLarge x P) (some : 1 ≤ words)
    (fits : P.low + 8 * (4 + words) ≤ P.high) where
  order : InOrder P P.end P.end
  order = in_order P P.end P.end (tiles_whole P keeps.tiles)

  abbrev high : ℕ
  high = P.high - 8 * (4 + words)

  abbrev wider : Pools
  wider = record P { high = high }

  small : high < 2 ^ 64
  small = omega (arith, order.first, order.most)

  wider_tiles : TilesAround wider high P.high
  wider_tiles = record {
    bounds = record {
      region = keeps.tiles.bounds.region;
      start = keeps.tiles.bounds.start;
      order = omega (arith, fits);
      end = omega (arith, keeps.tiles.bounds.end);
    };
    least = keeps.tiles.least;
    whole = omega (arith, order.whole, fits);
    parted = lowered P.high P.end high P.large keeps.tiles.follow (omega arith);
    lists = record { listed = keeps.tiles.lists.listed };
  }

  wider_holds : HoldsLarge (with_number 24 high x) wider
  wider_holds = high_holds P P.end P.end high x (tiles_whole P keeps.tiles) keeps.holds small

  -- what putting the block needs
  pub new_gap : HoldsGap words (high + 16) (with_number 24 high x)
  new_gap = record {
    pools = wider;
    from = high;
    to = P.high;
    tiles = wider_tiles;
    holds = wider_holds;
    at = refl;
    fits = omega (arith, fits);
    some = some;
  }

  new_tiles : TilesLarge (with_used_large wider (high + 16) words)
  new_tiles =
      let t = tiles_used wider high P.high words wider_tiles some (omega (arith, fits)) in
      record {
        bounds = t.bounds;
        least = t.least;
        follow = closed high P.end (high + 8 * (4 + words)) P.high (with_used_large wider (high + 16) words).large t.parted
            (omega (arith, fits));
        lists = t.lists;
        apart = λ w b there. elim (put_or_was (is_free_of w b) block P.large there) [
          | inl new ↦ absurd (clash (is_of w b block) new)
          | inr was ↦ omega (
            arith,
            not_put (is_free_at (b + 8 * (4 + w))) block P.large (never (high + 16 == b + 8 * (4 + w))),
            keeps.tiles.apart w b was,
          )
        ];
        edge = omega (
          arith,
          not_put (is_free_at (high + 16)) block P.large (never (high + 16 == high + 16)),
          free_at-le-at (high + 16) P.large,
          at_first P.high P.end (high + 16) P.large keeps.tiles.follow (omega (arith, fits)),
        );
      }
    where
      block : PoolBlock
      block = record { addr = high + 16; words = words; used = true }

      never : (v : Bool) → (v && false) ≡ false
      never true = refl
      never false = refl

      clash : (v : Bool) → (v && false) ≡ true → ⊥
      clash true is = cc
      clash false is = cc

  module _ (z : List ℕ) (puts : PutsUsed words (high + 16) (with_number 24 high x) z) where
    step : Steps wider (with_used_large wider (high + 16) words) 0 (with_number 24 high x) z
    step = puts.rule wider high P.high wider_tiles wider_holds refl (omega (arith, fits)) some

    pub new_taken : TakesBlock P (record { addr = high + 16; pools = with_new_large P words }) (Some (high + 16)) x z
    new_taken = record {
      addr = refl;
      used = record {
        used = omega (
          arith,
          count_by-with_placed (is_used_at (high + 16)) (record { addr = high + 16; words = words; used = true })
              P.large,
          ap (λ (v : Bool). cond (v && true) 1 0 + count_by (is_used_at (high + 16)) P.large)
              (eq-eqb (high + 16) (high + 16) refl),
        );
      };
      becomes = record {
        keeps = record { tiles = new_tiles; holds = step.holds };
        still = λ w b there differ.
            used_placed (record { addr = high + 16; words = words; used = true }) P.large w b there;
        small = small_stays P (with_used_large wider (high + 16) words) high x z
            (below_trans P.start P.low high x (with_number 24 high x) z
            (high_below P P.end P.end high x (tiles_whole P keeps.tiles) keeps.holds small high) step.below)
            (inr (omega arith)) step.holds new_tiles.follow refl refl keeps.tiles.bounds.order;
        others = record {
          blocks = λ w b there differ i ge lt.
              all_used wider high P.high (with_number 24 high x) z wider_tiles step.used w b there i ge lt
              ∙ high_used P P.end P.end high x (tiles_whole P keeps.tiles) keeps.holds small w b there i ge;
        };
      };
      kind = puts.kind;
      length = puts.length;
    }

-- the rule, where nothing was found
take_found-none : (P : Pools) (words : ℕ) (full : Bool) → nat_lt P.high (P.low + 8 * (4 + words)) ≡ full →
    take_found P words None
    ≡ cond full None (Some (record { addr = P.high - 8 * (4 + words) + 16; pools = with_new_large P words }))
take_found-none P words full is =
    ap (λ (v : Bool). cond v None (Some (record {
      addr = P.high - 8 * (4 + words) + 16;
      pools = with_new_large P words;
    }))) is

-- no block fits
pub new_none : (x y : List ℕ) (words : ℕ) → y ≡ x →
    ((P : Pools) → KeepsLarge x P → P.high < P.low + 8 * (4 + words)) → TakesNew words None x y
new_none x y words same full = record {
  rule = λ P keeps some.
      subst (λ (t : Option Taken). TakesBy P t None x y)
      (sym (take_found-none P words true (lt-ltb P.high (P.low + 8 * (4 + words)) (full P keeps)))) (refl, same);
}

-- a new one was put
pub new_some : (x z : List ℕ) (words high : ℕ) → high ≡ number_at 24 x → number_at 16 x + 8 * (4 + words) ≤ high →
    PutsUsed words (high - 8 * (4 + words) + 16) (with_number 24 (high - 8 * (4 + words)) x) z →
    TakesNew words (Some (high - 8 * (4 + words) + 16)) x z
new_some x z words high high_is fits puts = record {
  rule = λ P keeps some.
      let at : high ≡ P.high = high_is ∙ keeps.holds.high in
      let room : P.low + 8 * (4 + words) ≤ P.high = omega (arith, fits, at, keeps.holds.low) in
      subst (λ (t : Option Taken). TakesBy P t (Some (high - 8 * (4 + words) + 16)) x z)
      (sym (take_found-none P words false (le-ltb P.high (P.low + 8 * (4 + words)) room)))
      (subst (λ (h : ℕ). TakesBlock P (record {
        addr = P.high - 8 * (4 + words) + 16;
        pools = with_new_large P words;
      }) (Some (h - 8 * (4 + words) + 16)) x z) (sym at)
      (new_taken x words P keeps some room z
      (subst (λ (h : ℕ). PutsUsed words (h - 8 * (4 + words) + 16) (with_number 24 (h - 8 * (4 + words)) x) z) at puts)));
}

-- what putting the new block needs, after the words were read and `high` was written
pub new_put : (x a b z : List ℕ) (words low high : ℕ) → KeepsSomeLarge x → low ≡ number_at 16 x → a ≡ x →
    high ≡ number_at 24 a → b ≡ a → low + 8 * (4 + words) ≤ high → z ≡ with_number 24 (high - 8 * (4 + words)) b →
    1 ≤ words → HoldsGap words (high - 8 * (4 + words) + 16) z
new_put x a b z words low high k low_is same high_is same' fits written some =
    let P = k.pools in
    let at : high ≡ P.high = high_is ∙ ap (λ (l : List ℕ). number_at 24 l) same ∙ k.keeps.holds.high in
    subst (λ (l : List ℕ). HoldsGap words (high - 8 * (4 + words) + 16) l)
    (sym (written ∙ ap (λ (l : List ℕ). with_number 24 (high - 8 * (4 + words)) l) (same' ∙ same)))
    (subst (λ (h : ℕ). HoldsGap words (h - 8 * (4 + words) + 16) (with_number 24 (h - 8 * (4 + words)) x)) (sym at)
    (new_gap x words P k.keeps some (omega (arith, fits, at, low_is, k.keeps.holds.low))))

-- and then it is taken
pub new_done : (x a b z v : List ℕ) (words low high : ℕ) → low ≡ number_at 16 x → a ≡ x → high ≡ number_at 24 a →
    b ≡ a → low + 8 * (4 + words) ≤ high → z ≡ with_number 24 (high - 8 * (4 + words)) b →
    PutsUsed words (high - 8 * (4 + words) + 16) z v → TakesNew words (Some (high - 8 * (4 + words) + 16)) x v
new_done x a b z v words low high low_is same high_is same' fits written puts =
    new_some x v words high (high_is ∙ ap (λ (l : List ℕ). number_at 24 l) same) (omega (arith, fits, low_is))
    (subst (λ (l : List ℕ). PutsUsed words (high - 8 * (4 + words) + 16) l v)
    (written ∙ ap (λ (l : List ℕ). with_number 24 (high - 8 * (4 + words)) l) (same' ∙ same)) puts)
