-- A block given back to the large pool.
use Rattle.std.proofs.Common.{◌≡◌, ◌≤◌, ℕ, ◌+◌, ◌-◌, Bool, true, false, cond, ◌&&◌, ◌==◌}
use Rattle.std.proofs.Common.{List, refl, arith}
use Rattle.std.specs.Prelude.{Option, Some, None}
use Rattle.std.specs.List.{count_by, find}
use Rattle.sdr_base.specs.KeptLarge.{is_used_of}
use Rattle.sdr_base.specs.LargeGiving.{Loose, loosened, with_below, with_above, joined_below, joined_above}
use Rattle.sdr_base.specs.LargeGiving.{is_free_at, is_free_below, give_large}
use Rattle.sdr_base.specs.LargePool.{extent_of, without, with_free_large}
use Rattle.sdr_base.specs.Pools.{PoolBlock, Pools, IsUsed, is_at, is_of, is_used_at}
use Rattle.sdr_large.specs.Calls.{GivesLarge}
use Rattle.sdr_large.proofs.BlocksLemmas.{without-le, without-here, used_at_is}
use Rattle.sdr_large.proofs.BothPoolsLemmas.{give_same}
use Rattle.sdr_large.proofs.GapLemmas.{not_put}
use Rattle.sdr_base.specs.KeptHeap.{KeepsHeap}
use Rattle.sdr_heap.proofs.BesideLemmas.{IsWithout, without_kept}
use Rattle.sdr_heap.proofs.BlockInLemmas.{large_block}
use Rattle.sdr_heap.proofs.LabelsLemmas.{labelled_but}
use Rattle.sdr_heap.proofs.LargeChangeLemmas.{NoneCame, large_stay, large_small}
use Rattle.sdr_heap.proofs.UsedLemmas.{none_small}

-- a free block
abbrev free_block : ℕ → ℕ → PoolBlock
free_block words addr = record { addr = addr; words = words; used = false }

-- a test that free blocks fail passes no more blocks of the large pool when one is given back
module _ (p : PoolBlock → Bool) (fails : (words addr : ℕ) → p (free_block words addr) ≡ false) where
  put_le : (loose : Loose) (v : Bool) →
      count_by p (cond v (record loose.pools { high = loose.addr - 16 + extent_of loose.words })
      (with_free_large loose.pools loose.addr loose.words)).large ≤ count_by p loose.pools.large
  put_le loose true = omega arith
  put_le loose false =
      omega (arith, not_put p (free_block loose.words loose.addr) loose.pools.large (fails loose.words loose.addr))

  above_le : (o : Option PoolBlock) (loose : Loose) →
      count_by p (with_above o loose).pools.large ≤ count_by p loose.pools.large
  above_le None loose = omega arith
  above_le (Some d) loose = without-le p d.addr loose.pools.large

  below_le : (o : Option PoolBlock) (loose : Loose) →
      count_by p (with_below o loose).pools.large ≤ count_by p loose.pools.large
  below_le None loose = omega arith
  below_le (Some d) loose = without-le p d.addr loose.pools.large

  give_large-le : (P : Pools) (addr : ℕ) → count_by p (give_large P addr).large ≤ count_by p (without addr P.large)
  give_large-le P addr =
      let first : Loose = loosened P addr in
      let second : Loose = joined_below first in
      let third : Loose = joined_above second in
      omega (
        arith,
        put_le third (third.addr == third.pools.high + 16),
        above_le (find (is_free_at (second.addr + extent_of second.words)) second.pools.large) second,
        below_le (find (is_free_below first.addr) first.pools.large) first,
      )

-- what free blocks fail
not_used : (v : Bool) → (v && false) ≡ false
not_used true = refl
not_used false = refl

-- no large block comes into use when one is given back
given_came : (P : Pools) (addr : ℕ) → NoneCame addr P.large (give_large P addr).large
given_came P addr = record {
  was = λ w other differ used. omega (
    arith,
    used,
    give_large-le (is_used_of w other) (λ words a. not_used (is_of w other (free_block words a))) P addr,
    without-le (is_used_of w other) addr P.large,
  );
}

-- and that one is no more in use
given_gone : (P : Pools) (addr : ℕ) → count_by (is_used_at addr) (give_large P addr).large ≡ 0
given_gone P addr = omega (
  arith,
  give_large-le (is_used_at addr) (λ words a. not_used (is_at addr (free_block words a))) P addr,
  without-here (is_used_at addr) addr P.large (used_at_is addr),
)

-- a large block given back
module _ (P : Pools) (addr : ℕ) (x y : List ℕ) (keeps : KeepsHeap x P) (used : IsUsed P.large addr)
    (gives : GivesLarge addr x y) where
  pub large_given : IsWithout (give_large P addr) addr x y
  large_given =
      let Q : Pools = give_large P addr in
      let b = large_block x P keeps.small keeps.large addr used in
      let by = gives.rule P keeps.large used in
      let same = give_same P addr in
      let came = given_came P addr in
      let labels = labelled_but x P addr keeps.small keeps.large keeps.labels in
      let stay = large_stay P Q addr x y keeps.small keeps.large same by came in
      let small = large_small P Q addr x y keeps.small keeps.large same by came in
      without_kept P Q addr x y keeps.small keeps.large labels small by.keeps stay
      (none_small y Q addr small (omega (arith, same.low, b.first, keeps.small.tiles.bounds.order)))
      (given_gone P addr)
