-- The words that cut an extent, link a chain of extents, and tell an object where its chain begins and ends.
use Rattle.std.specs.Prelude.{◌≡◌, ℕ, List, [], ◌∷◌}
use Rattle.sdr_base.specs.Entries.{Changes}
use Rattle.sdr_base.specs.Linked.{last_of, linked}
use Rattle.sdr_base.specs.Making.{besides}
use Rattle.sdr_base.specs.Objects.{Heap}
use Rattle.sdr_base.specs.ZcoObjects.{ExtentRow, ObjectRow, extent_addr, extent_block}
use Rattle.zco_obj.specs.Extents.{extents_block}

-- an extent of another part of its source
abbrev pub with_range : ℕ → ℕ → ExtentRow → ExtentRow
with_range offset length e = record e { offset = offset; length = length }

-- whichever extent is there is of this part of its source, and all else stays
pub record CutsExtent (extent offset length : ℕ) (old new : Heap) : Type 0 where
  pub cuts : (next : ℕ) (e : ExtentRow) →
      Changes old.blocks new.blocks ((extent, extent_block 0 next e) ∷ [])
      ((extent, extent_block 0 next (with_range offset length e)) ∷ [])
  pub same : besides new ≡ besides old

-- wherever `last` is the last extent of a chain, this one follows it, and all else stays
pub record LinksAfter (last next : ℕ) (old new : Heap) : Type 0 where
  pub links : (rows : List ExtentRow) (was : ℕ) → last ≡ last_of extent_addr 0 rows →
      Changes old.blocks new.blocks (linked extent_addr extent_block 0 was rows) (linked extent_addr extent_block 0 next rows)
  pub same : besides new ≡ besides old

-- the chain of whichever object is there begins and ends with these extents, its part begins with the first, and all else stays
pub record SetsEnds (object first last : ℕ) (old new : Heap) : Type 0 where
  pub sets : (row : ObjectRow) (was_first was_last part : ℕ) →
      Changes old.blocks new.blocks ((object, extents_block row was_first was_last part) ∷ [])
      ((object, extents_block (record row { part_offset = 0 }) first last part) ∷ [])
  pub same : besides new ≡ besides old
