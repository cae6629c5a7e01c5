-- What stays over several steps.
use Rattle.std.proofs.Common.{◌≡◌, ◌≢◌, ◌≤◌, ◌<◌, ◌⊎◌, inl, inr, ℕ, ◌+◌, ◌-◌, ◌*◌}
use Rattle.std.proofs.Common.{List, get_or, sym, ◌∙◌, arith, subst}
use Rattle.std.specs.List.{count_by}
use Rattle.sdr_base.specs.Pools.{PoolBlock, Pools}
use Rattle.sdr_base.specs.LargePool.{without, with_placed}
use Rattle.sdr_base.specs.KeptLarge.{FollowsLarge, HoldsLarge, StaysSmall, StaysUsed, is_used_of}
use Rattle.sdr_base.proofs.PoolsLemmas.{used-le-at}
use Rattle.sdr_large.specs.Gap.{TilesAround, StaysBelow, IsFree}
use Rattle.sdr_large.proofs.BlocksLemmas.{without-other, used_of_is, count_by-with_placed}
use Rattle.sdr_large.proofs.FollowsLemmas.{at_first}
use Rattle.sdr_large.proofs.PlacesLemmas.{at_block, used_of, never_both}

-- two steps one after another
pub below_trans : (start low high : ℕ) (x y z : List ℕ) → StaysBelow start low high x y → StaysBelow start low high y z →
    StaysBelow start low high x z
below_trans start low high x y z a b = record {
  size = b.size ∙ a.size;
  front = λ i lt. b.front i lt ∙ a.front i lt;
  lists = λ i ge lt. b.lists i ge lt ∙ a.lists i ge lt;
  control = λ i ge lt. b.control i ge lt ∙ a.control i ge lt;
  blocks = λ i ge lt. b.blocks i ge lt ∙ a.blocks i ge lt;
  bits = λ word within lt. b.bits word within lt ∙ a.bits word within lt;
}

pub below_less : (start low high less : ℕ) (x y : List ℕ) → less ≤ high → StaysBelow start low high x y →
    StaysBelow start low less x y
below_less start low high less x y le a = record {
  size = a.size;
  front = a.front;
  lists = a.lists;
  control = a.control;
  blocks = a.blocks;
  bits = λ word within lt. a.bits word within (omega (arith, lt, le));
}

-- what the small pool stands on stays
pub small_stays : (P Q : Pools) (high : ℕ) (old new : List ℕ) → StaysBelow P.start P.low high old new →
    (P.high ≤ high) ⊎ (Q.high ≤ high) → HoldsLarge new Q → FollowsLarge Q.high Q.large Q.end → Q.start ≡ P.start →
    Q.low ≡ P.low → P.low ≤ P.high → StaysSmall P Q old new
small_stays P Q high old new below enough holds follow start low order = record {
  size = below.size;
  front = below.front;
  lists = below.lists;
  control = below.control;
  blocks = below.blocks;
  bits = λ word within lt lt'. below.bits word within (least word lt lt' enough);
  freed = λ word within ge lt.
      holds.bits word (omega (arith, within, start)) (omega (arith, ge, order, low))
      ∙ omega (
        arith,
        used-le-at (8 * word + 16) Q.large,
        at_first Q.high Q.end (8 * word + 16) Q.large follow (omega (arith, lt)),
      );
}
  where
    least : (word : ℕ) → 8 * word < P.high → 8 * word < Q.high → (P.high ≤ high) ⊎ (Q.high ≤ high) → 8 * word < high
    least word lt lt' (inl le) = omega (arith, lt, le)
    least word lt lt' (inr le) = omega (arith, lt', le)

-- a block in use stays, whatever its address
pub all_used : (P : Pools) (from to : ℕ) (x y : List ℕ) → TilesAround P from to → StaysUsed P 0 x y →
    (w b : ℕ) → 0 < count_by (is_used_of w b) P.large → (i : ℕ) → b - 16 ≤ i → i < b + 8 * w + 16 →
    get_or y i 0 ≡ get_or x i 0
all_used P from to x y tiles stays w b used i ge lt =
    stays.blocks w b used (λ none. omega (
      arith,
      none,
      (at_block P from to tiles w b
          (used_of P from to tiles w b used)).first,
    )) i ge lt

-- a block in use is not the free one that leaves
pub used_without : (P : Pools) (from to words addr w b : ℕ) → TilesAround P from to → IsFree P words addr →
    0 < count_by (is_used_of w b) P.large → 0 < count_by (is_used_of w b) (without addr P.large)
used_without P from to words addr w b tiles free used =
    omega (arith, used, without-other (is_used_of w b) b addr P.large (used_of_is w b) differ)
  where
    differ : b ≢ addr
    differ same = never_both P from to tiles words w b
        (subst (λ (a : ℕ). IsFree P words a) (sym same) free) used

-- it is there when another comes
pub used_placed : (block : PoolBlock) (bs : List PoolBlock) (w b : ℕ) → 0 < count_by (is_used_of w b) bs →
    0 < count_by (is_used_of w b) (with_placed block bs)
used_placed block bs w b used = omega (arith, used, count_by-with_placed (is_used_of w b) block bs)
