-- When a heap region passes all steps of the audit, and what it stands for then.
use Rattle.std.specs.Prelude.{ℕ, List, length}
use Rattle.sdr_stands.specs.Standing.{StandsForWhole}
use Rattle.sdr_base.specs.Cells.{IsRegionSize}
use Rattle.audit_counts.specs.Counted.{IsCountedRegion}
use Rattle.audit_owners.specs.Owned.{AreBytes, IsOwnedRegion}
use Rattle.audit_world.specs.Told.{world_of}
use Rattle.audit_world.specs.ToldPools.{pools_of}
use Rattle.audit_blocks.specs.Region.{IsSoundRegion}

-- A region of an allowed size passes the steps of the audit before that of queues: its structure is sound, each block has its owner, and
-- lists, hashes, names, counts and occupancies are right.
pub record IsCounted (bytes : List ℕ) : Type 0 where
  pub region : IsRegionSize (length bytes)
  pub bytes_are : AreBytes bytes
  pub sound : IsSoundRegion bytes
  pub owned : IsOwnedRegion bytes
  pub counted : IsCountedRegion bytes

-- the bytes stand for the world and with the pools that they tell; the world is whole, and its numbers fit the fields of blocks
pub record StandsAsTold (bytes : List ℕ) : Type 0 where
  pub told : StandsForWhole bytes (world_of bytes) (pools_of bytes)
