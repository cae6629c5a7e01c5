-- A change of the large pool leaves the other blocks in use, and the small pool.
use Rattle.std.proofs.Common.{◌≢◌, ◌<◌, ℕ}
use Rattle.std.proofs.Common.{List, sym, arith, subst}
use Rattle.std.specs.List.{count_by}
use Rattle.sdr_base.specs.KeptLarge.{KeepsLarge, is_used_of}
use Rattle.sdr_base.specs.KeptPools.{KeepsSmall}
use Rattle.sdr_base.specs.Pools.{PoolBlock, Pools}
use Rattle.sdr_base.proofs.KeptPoolsLemmas.{IsInOrder, in_order}
use Rattle.sdr_large.specs.Calls.{Becomes}
use Rattle.sdr_large.proofs.BothPoolsLemmas.{SameSmall, small_kept}
use Rattle.sdr_heap.proofs.BesideLemmas.{UsedStay}
use Rattle.sdr_heap.proofs.UsedLemmas.{small_at}

-- no other block has come into use
pub record NoneCame (addr : ℕ) (old new : List PoolBlock) : Type 0 where
  pub was : (words other : ℕ) → other ≢ addr → 0 < count_by (is_used_of words other) new →
      0 < count_by (is_used_of words other) old

module _ (P Q : Pools) (addr : ℕ) (x y : List ℕ) (small : KeepsSmall x P) (large : KeepsLarge x P)
    (same : SameSmall P Q) (becomes : Becomes P Q addr x y) (came : NoneCame addr P.large Q.large) where
  o : IsInOrder x P
  o = in_order x P small

  -- the blocks in use but the one at the address stay
  pub large_stay : UsedStay P Q addr x y
  large_stay = record {
    blocks = record {
      size = becomes.small.size;
      small_was = λ w other differ used.
          subst (λ (l : List PoolBlock). 0 < count_by (is_used_of w other) l) same.small used;
      small_is = λ w other differ used.
          subst (λ (l : List PoolBlock). 0 < count_by (is_used_of w other) l) (sym same.small) used;
      small_bytes = λ w other differ used i ge lt.
          let b = small_at x P small w other used in
          becomes.small.blocks i (omega (arith, ge, b.first)) (omega (arith, lt, b.last));
      large_was = came.was;
      large_is = λ w other differ used. becomes.still w other used differ;
      large_bytes = λ w other differ used i ge lt.
          becomes.others.blocks w other used differ i ge (omega (arith, lt));
    };
    roots = becomes.small.control;
  }

  -- the small pool is kept
  pub large_small : KeepsSmall y Q
  large_small = small_kept P Q x y same small becomes.small becomes.keeps
