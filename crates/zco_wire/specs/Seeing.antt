-- What the blocks of objects and sources say to a reader.
use Rattle.std.specs.Prelude.{◌≡◌, ℕ, Bool, true, false, Option}
use Rattle.sdr_base.specs.Blocks.{Block, Blocks}
use Rattle.sdr_base.specs.ZcoObjects.{ObjectRow}
use Rattle.zco_obj.specs.Kept.{KeepsObject}
use Rattle.sdr_model.specs.declared.zco.Part.{Part}
use Rattle.zco_ref.specs.Kept.{CountedSource, KeepsSource}
use Rattle.sdr_base.specs.declared.medium.Medium.{Medium}
use Rattle.sdr_base.specs.declared.medium.Medium.TheVariants as media

-- whichever source is kept there, this is its medium
pub record SeesMedium (found : Option Block) (medium : Medium) : Type 0 where
  pub sees : (source : CountedSource) → KeepsSource found source → medium ≡ source.row.medium

-- the bytes of a medium lie in a raw object
abbrev pub is_raw : Medium → Bool
is_raw media.File = false
is_raw media.Bulk = false
is_raw medium = true

-- whichever source is kept there, its bytes lie in a raw object
pub record SeesRaw (blocks : Blocks) (addr : ℕ) : Type 0 where
  pub sees : (source : CountedSource) → KeepsSource (blocks addr) source → is_raw source.row.medium ≡ true

-- whichever object is kept there, this is its part
pub record SeesPart (blocks : Blocks) (object : ℕ) (part : Part) : Type 0 where
  pub sees : (row : ObjectRow) → KeepsObject blocks object row → part ≡ record { offset = row.part_offset; length = row.part_length }
