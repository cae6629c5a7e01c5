-- Valid worlds of a machine that has no heap.
use Rattle.std.specs.Prelude.{◌≤◌, ◌*◌, All}
use Rattle.sdr_model.specs.Whole.{IsWhole}
use Rattle.sdr_model.specs.Blocks.{addresses_of, blocks_of}
use Rattle.sdr_model.specs.World.{World}

-- the world is whole, and its blocks begin at addresses that were given so far, the k-th of which is 8 k
pub record IsValidDry (w : World) : Type 0 where
  pub whole : IsWhole w
  pub given : All (λ addr. addr ≤ 8 * w.taken) (addresses_of (blocks_of w))
