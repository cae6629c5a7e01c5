-- The blocks that go where an object is cut to its part are no more than a heap has room for.
use Rattle.std.proofs.Common.{◌≡◌, ◌≤◌, ◌*◌, ◌++◌, ℕ, List, Some, map, length, ap, arith}
use Rattle.std.proofs.lemmas.List.{length-append, length-map}
use Rattle.sdr_stands.specs.Rows.{extent_row, object_row}
use Rattle.sdr_stands.specs.Standing.{HeapStandsFor, other_entries}
use Rattle.sdr_base.proofs.LinkedLemmas.{length-linked}
use Rattle.sdr_base.specs.Entries.{Few}
use Rattle.sdr_base.specs.Objects.{Heap}
use Rattle.sdr_base.specs.ZcoObjects.{ExtentRow, capsule_entries, extent_addr, extent_block, extent_entries, object_entries}
use Rattle.sdr_model.specs.PartSteps.{outside_part, stripped}
use Rattle.sdr_model.specs.RowMoves.{stripped_blocks}
use Rattle.sdr_model.specs.Valid.{FitTogether}
use Rattle.sdr_model.specs.World.{World, thing_at}
use Rattle.sdr_model.specs.declared.things.Thing.TheVariants as things
use Rattle.sdr_model.specs.declared.zco.ZcoObject.{ZcoObject}
use Rattle.step_zco.proofs.DestroyedFew.{all_few, both_go}
use Rattle.step_zco.proofs.GoneUses.{named_of}
use Rattle.step_zco.proofs.GoneWorlds.{beside, own_blocks, own_first}
use Rattle.zco_strip.proofs.OutsideLaws.{length_out}
use Rattle.zco_strip.specs.Cuts.{part_end}
use Rattle.step_zco_parts.proofs.CutRows.{outside_row}
use Rattle.step_zco_parts.proofs.CutSources.{mine}
use Rattle.step_zco_parts.proofs.StripLosses.{leaves_cut}
use Rattle.zco_obj.specs.Gone.{sources_entries}

-- no more extents lie outside a part than there are
outside_few : (z : ZcoObject) → length (outside_part z) ≤ length z.extents
outside_few z =
    let row = object_row z in
    let out = ap (λ (es : List ExtentRow). length es) (outside_row z) in
    omega (
      arith,
      out,
      length_out row.part_offset (part_end row) row.extents,
      length-map (outside_part z) extent_row,
      length-map z.extents extent_row,
    )

-- each block that goes where an object is cut, in a world in blocks, has 16 bytes of the heap for itself
pub stripped_few : (heap : Heap) (w : World) (addr : ℕ) (z : ZcoObject) → HeapStandsFor heap w → FitTogether w →
    Few heap.size heap.blocks → thing_at w addr ≡ Some (things.Object z) →
    16 * length (stripped_blocks w (Some z)) ≤ heap.size
stripped_few heap w addr z s fits few there =
    let out = outside_part z in
    let u = mine w addr z fits there in
    let row = object_row z in
    let own = own_blocks w addr z there fits out (Some (stripped z)) (leaves_cut z) u.sources u.are in
    let rest = beside w addr z there fits out (Some (stripped z)) (leaves_cut z) u.sources u.are in
    let first = own_first w addr z there fits out (Some (stripped z)) (leaves_cut z) u.sources u.are in
    let headers = capsule_entries row.headers in
    let extents = extent_entries row.extents in
    let trailers = capsule_entries row.trailers in
    let sources = sources_entries (map (named_of w out) u.sources) in
    let same = ap (λ (ks : List ℕ). length ks) u.are.gone in
    omega (
      arith,
      few.few ((own ++ rest) ++ other_entries w) (first.forth heap.blocks (other_entries w) s.blocks),
      both_go w out out,
      same,
      all_few w out u.sources,
      outside_few z,
      length-append (own ++ rest) (other_entries w),
      length-append own rest,
      length-append (object_entries addr row) sources,
      length-append (headers ++ extents) trailers,
      length-append headers extents,
      length-linked extent_addr extent_block 0 0 row.extents,
      length-map z.extents extent_row,
    )
