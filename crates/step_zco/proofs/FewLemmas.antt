-- An object has few parts.
use Rattle.std.proofs.Common.{◌≡◌, ◌≤◌, ◌+◌, ◌*◌, ◌++◌, ℕ, Some, length, arith}
use Rattle.std.proofs.lemmas.List.{length-append, length-map}
use Rattle.sdr_stands.proofs.ChangeLemmas.{apart}
use Rattle.sdr_stands.specs.Rows.{capsule_row, extent_row, object_row}
use Rattle.sdr_stands.specs.Standing.{HeapStandsFor}
use Rattle.sdr_base.proofs.LinkedLemmas.{length-linked}
use Rattle.sdr_base.specs.Entries.{Few}
use Rattle.sdr_base.specs.Objects.{Heap}
use Rattle.sdr_base.specs.ZcoObjects.{capsule_addr, capsule_block, capsule_entries, extent_addr, extent_block, extent_entries, object_entries}
use Rattle.sdr_model.specs.World.{World, thing_at}
use Rattle.sdr_model.specs.declared.things.Thing.TheVariants as things
use Rattle.sdr_model.specs.declared.zco.ZcoObject.{ZcoObject}

-- an object of a world in blocks has, with its own block, at most one for 16 bytes of the heap
pub few_blocks : (heap : Heap) (w : World) (addr : ℕ) (z : ZcoObject) → HeapStandsFor heap w → Few heap.size heap.blocks →
    thing_at w addr ≡ Some (things.Object z) →
    16 * (1 + length z.headers + length z.extents + length z.trailers) ≤ heap.size
few_blocks heap w addr z s few there =
    let row = object_row z in
    let a = apart addr (things.Object z) s there in
    let headers = capsule_entries row.headers in
    let extents = extent_entries row.extents in
    let trailers = capsule_entries row.trailers in
    let all = few.few (object_entries addr row ++ a.rest) a.stands in
    omega (
      arith,
      all,
      length-append (headers ++ extents ++ trailers) a.rest,
      length-append (headers ++ extents) trailers,
      length-append headers extents,
      length-linked capsule_addr capsule_block 0 0 row.headers,
      length-linked extent_addr extent_block 0 0 row.extents,
      length-linked capsule_addr capsule_block 0 0 row.trailers,
      length-map z.headers capsule_row,
      length-map z.extents extent_row,
      length-map z.trailers capsule_row,
    )
