-- A census of the blocks of a heap.
use Rattle.std.specs.Prelude.{◌≡◌, ◌+◌, ◌/◌, ℕ, not, List, length, count_by, take, drop}
use Rattle.sdr_base.specs.KeptHeap.{KeepsHeap}
use Rattle.sdr_base.specs.Pools.{PoolBlock, Pools}
use Rattle.sdr_base.specs.declared.line.TheConstants.{WORD}
use Rattle.sdr_audit.specs.declared.census.Census.{Census}
use Rattle.audit_blocks.specs.Spots.{is_free_spot, is_used_spot}
use Rattle.audit_blocks.specs.declared.control.Edges.{Edges}
use Rattle.audit_blocks.specs.declared.spot.Spot.{Spot}

-- how many of these blocks are in use
abbrev pub used_in : List PoolBlock → ℕ
used_in = count_by (λ block. block.used)

-- how many of them are free
abbrev pub free_in : List PoolBlock → ℕ
free_in = count_by (λ block. not block.used)

-- The census tells what a heap region keeps: its size, both ends of the unassigned space, and how many blocks of both pools are in use,
-- and how many of each are free.
pub record IsCensus (bytes : List ℕ) (census : Census) : Type 0 where
  pub pools : Pools
  pub keeps : KeepsHeap bytes pools
  pub size : census.size ≡ length bytes
  pub low : census.low ≡ pools.low
  pub high : census.high ≡ pools.high
  pub used : census.used ≡ used_in pools.small + used_in pools.large
  pub small : census.small ≡ free_in pools.small
  pub large : census.large ≡ free_in pools.large

-- the census of the blocks that begin with these words of a region, small ones before high and large ones from there on
abbrev pub census_of : Edges → List Spot → Census
census_of edges told = record {
  size = edges.end;
  low = edges.low;
  high = edges.high;
  used = count_by is_used_spot told;
  small = count_by is_free_spot (take (edges.high / WORD) told);
  large = count_by is_free_spot (drop (edges.high / WORD) told);
}
