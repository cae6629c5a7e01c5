-- The moves in which a part of an object is cloned are no more than a heap has room for.
use Rattle.std.proofs.Common.{◌≡◌, ◌≤◌, ◌+◌, ◌*◌, ◌++◌, ℕ, Some, length, arith}
use Rattle.std.proofs.lemmas.List.{length-append, length-map}
use Rattle.sdr_stands.proofs.ChangeLemmas.{apart}
use Rattle.sdr_stands.specs.Rows.{extent_row, object_row}
use Rattle.sdr_stands.specs.Standing.{HeapStandsFor}
use Rattle.sdr_base.proofs.LinkedLemmas.{length-linked}
use Rattle.sdr_base.specs.Entries.{Few}
use Rattle.sdr_base.specs.Objects.{Heap}
use Rattle.sdr_base.specs.ZcoObjects.{capsule_entries, extent_addr, extent_block, extent_entries, object_entries}
use Rattle.sdr_model.proofs.FewLemmas.{length-cut_all}
use Rattle.sdr_model.specs.PartSteps.{asked_extents}
use Rattle.sdr_model.specs.RowMoves.{clone_moves_of}
use Rattle.sdr_model.specs.World.{World, thing_at}
use Rattle.sdr_model.specs.declared.things.Thing.TheVariants as things
use Rattle.sdr_model.specs.declared.zco.ZcoObject.{ZcoObject}
use Rattle.step_zco_parts.proofs.PartDemandLemmas.{extents_taken}

-- a clone's moves are one for itself and one for each of its extents, which are no more than those of the object
clone_moves_few : (z : ZcoObject) (offset bytes : ℕ) (at : ℕ → ℕ) → length (clone_moves_of (Some z) offset bytes at) ≤ 1 + length z.extents
clone_moves_few z offset bytes at =
    let from = z.part.offset + offset in
    omega (arith, extents_taken at 1 (asked_extents z offset bytes), length-cut_all from (from + bytes) z.extents)

-- each of them has 16 bytes of the heap that the object's blocks are in
pub cloned_few : (heap : Heap) (w : World) (addr : ℕ) (z : ZcoObject) (offset bytes : ℕ) → HeapStandsFor heap w →
    Few heap.size heap.blocks → thing_at w addr ≡ Some (things.Object z) → (at : ℕ → ℕ) →
    16 * length (clone_moves_of (Some z) offset bytes at) ≤ heap.size
cloned_few heap w addr z offset bytes s few there at =
    let row = object_row z in
    let a = apart addr (things.Object z) s there in
    let headers = capsule_entries row.headers in
    let extents = extent_entries row.extents in
    omega (
      arith,
      few.few (object_entries addr row ++ a.rest) a.stands,
      clone_moves_few z offset bytes at,
      length-append (object_entries addr row) a.rest,
      length-append (headers ++ extents) (capsule_entries row.trailers),
      length-append headers extents,
      length-linked extent_addr extent_block 0 0 row.extents,
      length-map z.extents extent_row,
    )
