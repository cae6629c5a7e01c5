-- Blocks that were walked over, and what was found of them.
use Rattle.std.specs.Prelude.{◌≡◌, ◌*◌, ◌≤◌, ◌%◌, ℕ, Bool, false, not, List, [], ◌∷◌, length}
use Rattle.sdr_base.specs.Cells.{IsRegionSize}
use Rattle.sdr_base.specs.Pools.{PoolBlock}
use Rattle.sdr_base.specs.declared.control.TheConstants.{HIGH, LOW, START}
use Rattle.sdr_base.specs.declared.line.TheConstants.{WORD}
use Rattle.audit_blocks.specs.Auditing.{edges_of}
use Rattle.audit_blocks.specs.Control.{ControlIsRight, control_word}
use Rattle.audit_blocks.specs.Spots.{AreSpots}
use Rattle.audit_blocks.specs.Walk.{AreBlocks, LargeFollow, SmallFollow, first_full, first_unfit, free_edge, touching_after}
use Rattle.audit_blocks.specs.declared.control.Edges.{Edges}
use Rattle.audit_blocks.specs.declared.findings.Findings.{Findings}
use Rattle.audit_blocks.specs.declared.spot.Spot.{Spot}

-- whether the last of these blocks is free, where one stands before them that is free or not
abbrev pub is_last_free : Bool → List PoolBlock → Bool
is_last_free free [] = free
is_last_free free (block ∷ blocks) = is_last_free (not block.used) blocks

-- so far these are the first wrong ones of the blocks
pub record AreFindings (bytes : List ℕ) (small large : List PoolBlock) (found : Findings) : Type 0 where
  pub unfit : found.unfit ≡ first_unfit bytes small large
  pub full : found.full ≡ first_full bytes small large
  pub touching : found.touching ≡ touching_after false large
  pub edge : found.edge ≡ free_edge large
  pub after_free : found.after_free ≡ is_last_free false large

-- small blocks follow one another up to a place, of which so much was found
pub record SmallWalked (bytes : List ℕ) (place : ℕ) (found : Findings) (told : List Spot) : Type 0 where
  pub done : List PoolBlock
  pub follow : SmallFollow bytes (control_word bytes START) done place
  pub whole : place % WORD ≡ 0
  pub within : place ≤ control_word bytes LOW
  pub findings : AreFindings bytes done [] found
  pub spots : AreSpots done [] told

-- large blocks follow one another up to a place behind all small ones, of which so much was found
pub record LargeWalked (bytes : List ℕ) (place : ℕ) (found : Findings) (told : List Spot) : Type 0 where
  pub small : List PoolBlock
  pub below : SmallFollow bytes (control_word bytes START) small (control_word bytes LOW)
  pub done : List PoolBlock
  pub follow : LargeFollow bytes (control_word bytes HIGH) done place
  pub whole : place % WORD ≡ 0
  pub within : place ≤ length bytes
  pub findings : AreFindings bytes small done found
  pub spots : AreSpots small done told

-- all blocks are right, and it is told of each word what begins with it
pub record AllFound (bytes : List ℕ) (told : List Spot) : Type 0 where
  pub small : List PoolBlock
  pub large : List PoolBlock
  pub blocks : AreBlocks bytes small large
  pub spots : AreSpots small large told

-- there are blocks, all of which are right
pub record HasBlocks (bytes : List ℕ) : Type 0 where
  pub small : List PoolBlock
  pub large : List PoolBlock
  pub are : AreBlocks bytes small large

-- a region of a size that it may have has right control words, and its blocks may stand between these edges
pub record AreEdges (bytes : List ℕ) (edges : Edges) : Type 0 where
  pub region : IsRegionSize (length bytes)
  pub right : ControlIsRight bytes
  pub between : edges ≡ edges_of bytes

-- blocks that are right stand between these edges
pub record IsBuilt (bytes : List ℕ) (edges : Edges) : Type 0 where
  pub edged : AreEdges bytes edges
  pub blocks : HasBlocks bytes

-- blocks that are right stand between these edges, and it is told of each word what begins with it
pub record IsSurveyed (bytes : List ℕ) (edges : Edges) (told : List Spot) : Type 0 where
  pub edged : AreEdges bytes edges
  pub long : length told * WORD ≡ length bytes
  pub found : AllFound bytes told
