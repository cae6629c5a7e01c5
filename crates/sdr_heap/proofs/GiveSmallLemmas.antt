-- A block given back to the small pool.
use Rattle.std.proofs.Common.{ℕ, false}
use Rattle.std.proofs.Common.{List, refl, arith}
use Rattle.sdr_base.specs.Pools.{Pools, IsUsed}
use Rattle.sdr_base.specs.SmallPool.{give_small, words_at}
use Rattle.sdr_base.proofs.SmallPoolLemmas.{words_at-is, used-with_used_given}
use Rattle.sdr_small.specs.Calls.{GivesSmall as SmallGives}
use Rattle.sdr_base.specs.KeptHeap.{KeepsHeap}
use Rattle.sdr_heap.proofs.BesideLemmas.{IsWithout, without_kept}
use Rattle.sdr_heap.proofs.BlockInLemmas.{small_block}
use Rattle.sdr_heap.proofs.LabelsLemmas.{labelled_but}
use Rattle.sdr_heap.proofs.SmallChangeLemmas.{used_change, small_stay, small_large}
use Rattle.sdr_heap.proofs.UsedLemmas.{none_large}

-- a small block given back
module _ (P : Pools) (addr : ℕ) (x y : List ℕ) (keeps : KeepsHeap x P) (used : IsUsed P.small addr)
    (gives : SmallGives addr x y) where
  pub small_given : IsWithout (give_small P addr) addr x y
  small_given =
      let Q : Pools = give_small P addr in
      let words : ℕ = words_at addr P.small in
      let by = gives.rule P keeps.small used in
      let change = used_change P Q words addr false x y keeps.small by.keeps
      (record { start = refl; end = refl; high = refl; large = refl; large_lists = refl }) refl
      (words_at-is addr P.small used.used) by.others in
      let large = small_large P Q words addr x y keeps.small keeps.large change in
      let b = small_block x P keeps.small keeps.large addr used in
      without_kept P Q addr x y keeps.small keeps.large
      (labelled_but x P addr keeps.small keeps.large keeps.labels) by.keeps large
      (small_stay P Q words addr x y keeps.small keeps.large change) (used-with_used_given addr P.small)
      (none_large x P addr keeps.large (omega (arith, change.last, b.some)))
