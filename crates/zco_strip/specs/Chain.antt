-- A chain of extents, of which those outside a part are linked into a chain of their own, and the others are cut to it.
use Rattle.std.specs.Prelude.{◌≡◌, ◌≤◌, ℕ, List, ◌++◌}
use Rattle.sdr_base.specs.Blocks.{Blocks}
use Rattle.sdr_base.specs.Entries.{Changes}
use Rattle.sdr_base.specs.Linked.{first_of, last_of}
use Rattle.sdr_base.specs.Making.{besides}
use Rattle.sdr_base.specs.Objects.{Heap}
use Rattle.sdr_base.specs.ZcoObjects.{ExtentRow, extent_addr, extent_entries}
use Rattle.zco_strip.specs.Cuts.{HaveBytes, cut_all, left_out}
use Rattle.zco_strip.specs.declared.chain.Parted.{Parted}
use Rattle.zco_obj.specs.Kept.{extents_length}
use Rattle.zco_obj.specs.Walks.{ExtentsAt}

-- extents are a chain there, each with a byte
pub record ChainOf (blocks : Blocks) (first : ℕ) (rows : List ExtentRow) : Type 0 where
  pub chain : ExtentsAt blocks first rows
  pub bytes : HaveBytes rows

-- some are, with so many bytes at least
pub record SomeChain (blocks : Blocks) (first bytes : ℕ) : Type 0 where
  pub rows : List ExtentRow
  pub is : ChainOf blocks first rows
  pub long : bytes ≤ extents_length rows

-- the extents in a part of the bytes, cut to it, are a chain, and those outside are another
pub record ChainParted (from to : ℕ) (rows : List ExtentRow) (old new : Heap) (parted : Parted) : Type 0 where
  pub changes : Changes old.blocks new.blocks (extent_entries rows)
      (extent_entries (cut_all from to rows) ++ extent_entries (left_out from to rows))
  pub at_first : parted.first ≡ first_of extent_addr 0 (cut_all from to rows)
  pub at_last : parted.last ≡ last_of extent_addr 0 (cut_all from to rows)
  pub at_out : parted.out ≡ first_of extent_addr 0 (left_out from to rows)

-- so it is with whichever are a chain there; and all else stays
pub record PartsChain (first from to : ℕ) (old new : Heap) (parted : Parted) : Type 0 where
  pub parts : (rows : List ExtentRow) → ChainOf old.blocks first rows → to ≤ extents_length rows →
      ChainParted from to rows old new parted
  pub same : besides new ≡ besides old
