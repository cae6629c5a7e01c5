-- What a whole audit asks of a heap region, and what follows from it.
use Rattle.std.specs.Prelude.{◌≡◌, ℕ, true, List, length, take, Some}
use Rattle.sdr_base.specs.Blocks.{Block}
use Rattle.sdr_base.specs.KeptHeap.{KeepsHeap, block_in}
use Rattle.sdr_base.specs.Pools.{PoolBlock, Pools}
use Rattle.audit_blocks.specs.Bits.{BitsAreRight, IsWrongBits}
use Rattle.audit_blocks.specs.Content.{ContentIsRight, IsWrongContent, has_layout, told_bytes}
use Rattle.audit_blocks.specs.Control.{ControlIsRight, IsWrongControl}
use Rattle.audit_blocks.specs.Free.{AreListed, IsWrongFree}
use Rattle.audit_blocks.specs.Walk.{AreBlocks, IsWrongBlock}
use Rattle.audit_blocks.specs.declared.error.Check.{Check}
use Rattle.audit_blocks.specs.declared.error.Check.TheVariants as whys
use Rattle.audit_blocks.specs.declared.error.Damage.{Damage}

-- a region with these blocks passes each check
pub record IsSound (bytes : List ℕ) (small large : List PoolBlock) : Type 0 where
  pub control : ControlIsRight bytes
  pub blocks : AreBlocks bytes small large
  pub bits : BitsAreRight bytes small large
  pub free : AreListed bytes small large
  pub content : ContentIsRight bytes small large

-- a region passes each check, whatever its blocks are
pub record IsSoundRegion (bytes : List ℕ) : Type 0 where
  pub small : List PoolBlock
  pub large : List PoolBlock
  pub sound : IsSound bytes small large

-- the control words are right, and then a block is wrong
pub record BlockIsFirst (bytes : List ℕ) (place : ℕ) : Type 0 where
  pub control : ControlIsRight bytes
  pub wrong : IsWrongBlock bytes place

-- the blocks are right too, and then a start bit is wrong
pub record BitsAreFirst (bytes : List ℕ) (place : ℕ) : Type 0 where
  pub control : ControlIsRight bytes
  pub small : List PoolBlock
  pub large : List PoolBlock
  pub blocks : AreBlocks bytes small large
  pub wrong : IsWrongBits bytes small large place

-- the start bits are right too, and then a list of free blocks is wrong, or a block in none
pub record FreeIsFirst (bytes : List ℕ) (place : ℕ) : Type 0 where
  pub control : ControlIsRight bytes
  pub small : List PoolBlock
  pub large : List PoolBlock
  pub blocks : AreBlocks bytes small large
  pub bits : BitsAreRight bytes small large
  pub wrong : IsWrongFree bytes small large place

-- the lists are right too, and then a block's content is wrong
pub record ContentIsFirst (bytes : List ℕ) (place : ℕ) : Type 0 where
  pub control : ControlIsRight bytes
  pub small : List PoolBlock
  pub large : List PoolBlock
  pub blocks : AreBlocks bytes small large
  pub bits : BitsAreRight bytes small large
  pub free : AreListed bytes small large
  pub wrong : IsWrongContent bytes small large place

-- by this check the structure of a region is wrong first, at this place; owners, counts and queues are none of it
abbrev pub RegionIsWrongFirst : List ℕ → Check → ℕ → Type 0
RegionIsWrongFirst bytes whys.Control place = IsWrongControl bytes place
RegionIsWrongFirst bytes whys.Block place = BlockIsFirst bytes place
RegionIsWrongFirst bytes whys.Bits place = BitsAreFirst bytes place
RegionIsWrongFirst bytes whys.Free place = FreeIsFirst bytes place
RegionIsWrongFirst bytes whys.Content place = ContentIsFirst bytes place
RegionIsWrongFirst bytes why place = ⊥

-- what was found damaged is what is wrong first
abbrev pub TellsFirst : List ℕ → Damage → Type 0
TellsFirst bytes damage = RegionIsWrongFirst bytes damage.why damage.place

-- each block in use has what its kind's layout asks
abbrev pub HasLayouts : List ℕ → Type 0
HasLayouts bytes =
    (addr : ℕ) (block : Block) → block_in bytes addr ≡ Some block →
    has_layout block.kind (length block.bytes) (take told_bytes block.bytes) ≡ true

-- the bytes keep a heap with just these blocks, and each in use has its layout
pub record KeepsBlocks (bytes : List ℕ) (small large : List PoolBlock) : Type 0 where
  pub pools : Pools
  pub keeps : KeepsHeap bytes pools
  pub small_are : pools.small ≡ small
  pub large_are : pools.large ≡ large
  pub layouts : HasLayouts bytes
