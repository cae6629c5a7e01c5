-- Both pools of a heap region, in the same bytes.
use Rattle.std.specs.Prelude.{ℕ, List}
use Rattle.sdr_base.specs.Pools.{Pools}
use Rattle.sdr_base.specs.KeptPools.{KeepsSmall}
use Rattle.sdr_base.specs.KeptLarge.{KeepsLarge}

-- the bytes keep both pools of a heap, with the unassigned space between them
pub record KeepsBoth (bytes : List ℕ) : Type 0 where
  pub pools : Pools
  pub small : KeepsSmall bytes pools
  pub large : KeepsLarge bytes pools
