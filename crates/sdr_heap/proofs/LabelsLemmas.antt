-- Which blocks in use have their labels.
use Rattle.std.proofs.Common.{◌≡◌, ℕ}
use Rattle.std.proofs.Common.{List, sym, arith, subst}
use Rattle.std.specs.List.{count_by}
use Rattle.sdr_base.specs.KeptLarge.{KeepsLarge}
use Rattle.sdr_base.specs.KeptPools.{KeepsSmall}
use Rattle.sdr_base.specs.Pools.{Pools, is_used_at}
use Rattle.sdr_large.proofs.PlacesLemmas.{used_of-le-at}
use Rattle.sdr_base.specs.KeptHeap.{LabelledBut}
use Rattle.sdr_heap.proofs.UsedLemmas.{small_at, large_at}

-- no block begins at 0, so where all have labels, all but one have
pub labelled_but : (x : List ℕ) (P : Pools) (addr : ℕ) → KeepsSmall x P → KeepsLarge x P → LabelledBut 0 x P →
    LabelledBut addr x P
labelled_but x P addr small large labels = record {
  small = λ words other apart used.
      labels.small words other (λ is. omega (arith, is, (small_at x P small words other used).first)) used;
  large = λ words other apart used.
      labels.large words other (λ is. omega (arith, is, (large_at x P large words other used).first)) used;
}

-- and where no block is in use at the address, all have
pub labelled_all : (x : List ℕ) (P : Pools) (addr : ℕ) → LabelledBut addr x P →
    count_by (is_used_at addr) P.small ≡ 0 → count_by (is_used_at addr) P.large ≡ 0 → LabelledBut 0 x P
labelled_all x P addr labels none_small none_large = record {
  small = λ words other _ used. labels.small words other (λ is.
      omega (
        arith,
        used,
        used_of-le-at words other P.small,
        subst (λ (a : ℕ). count_by (is_used_at a) P.small ≡ 0) (sym is) none_small,
      )) used;
  large = λ words other _ used. labels.large words other (λ is.
      omega (
        arith,
        used,
        used_of-le-at words other P.large,
        subst (λ (a : ℕ). count_by (is_used_at a) P.large ≡ 0) (sym is) none_large,
      )) used;
}
