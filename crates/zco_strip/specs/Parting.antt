-- Extents that are cut to a part of their bytes.
use Rattle.std.specs.Prelude.{◌≡◌, ◌==◌, ℕ, [], ◌∷◌, MatchBool}
use Rattle.sdr_base.specs.Entries.{Changes}
use Rattle.sdr_base.specs.Making.{besides}
use Rattle.sdr_base.specs.Objects.{Heap}
use Rattle.sdr_base.specs.ZcoObjects.{ExtentRow, extent_block}
use Rattle.zco_strip.specs.Cuts.{cut}
use Rattle.zco_strip.specs.declared.finding.Place.{Place}
use Rattle.zco_strip.specs.declared.parting.End.{End}
use Rattle.zco_obj.specs.Walks.{KeepsExtent}

-- whichever extent is there is cut to its bytes from one place on and before another; and all else stays
pub record CutsTo (extent from to : ℕ) (old new : Heap) : Type 0 where
  pub cuts : (next : ℕ) (e : ExtentRow) → KeepsExtent (old.blocks extent) next e →
      Changes old.blocks new.blocks ((extent, extent_block 0 next e) ∷ []) ((extent, extent_block 0 next (cut from to e)) ∷ [])
  pub same : besides new ≡ besides old

-- where no byte of the extent at a place lies before it, the one before that is the last in the part, and nothing changes
pub record EndsBefore (place : Place) (old new : Heap) (end : End) : Type 0 where
  pub last : end.last ≡ place.last
  pub next : end.next ≡ place.extent
  pub same : new ≡ old

-- else that is, cut to those bytes, and what is next behind whichever it is
pub record EndsInside (place : Place) (old new : Heap) (end : End) : Type 0 where
  pub last : end.last ≡ place.extent
  pub next : (next : ℕ) (e : ExtentRow) → KeepsExtent (old.blocks place.extent) next e → end.next ≡ next
  pub cuts : CutsTo place.extent 0 place.inside old new

-- so the end of a part is cut
abbrev pub CutsEnd : Place → Heap → Heap → End → Type 0
CutsEnd place old new end = MatchBool (place.inside == 0) (EndsBefore place old new end) (EndsInside place old new end)
