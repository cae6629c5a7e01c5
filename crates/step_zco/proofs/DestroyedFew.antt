-- The blocks that go where an object is destroyed are no more than a heap has room for.
use Rattle.std.proofs.Common.{◌≡◌, ◌≤◌, ◌+◌, ◌*◌, ℕ, List, [], ◌∷◌, ◌++◌, map, Bool, true, false, Some, length, ap, arith, None}
use Rattle.std.proofs.lemmas.List.{length-append, length-map}
use Rattle.std.specs.Option.{option_to_list}
use Rattle.std.specs.Prelude.{if◌then◌else◌}
use Rattle.sdr_stands.specs.Rows.{capsule_row, extent_row, medium_of, object_row, subject_number}
use Rattle.sdr_stands.specs.Standing.{HeapStandsFor, other_entries}
use Rattle.sdr_base.proofs.LinkedLemmas.{length-linked}
use Rattle.sdr_base.specs.Entries.{Few}
use Rattle.sdr_base.specs.Objects.{Heap}
use Rattle.sdr_base.specs.ZcoObjects.{capsule_addr, capsule_block, capsule_entries, extent_addr, extent_block, extent_entries, object_entries}
use Rattle.sdr_model.specs.Gone.{gone_blocks, gone_things, gone_with}
use Rattle.sdr_model.specs.RowMoves.{destroyed_blocks}
use Rattle.sdr_model.specs.Valid.{FitTogether}
use Rattle.sdr_model.specs.World.{World, thing_at}
use Rattle.sdr_model.specs.Zco.{taken_over}
use Rattle.sdr_model.specs.declared.things.Thing.TheVariants as things
use Rattle.sdr_model.specs.declared.zco.Capsule.{Capsule}
use Rattle.sdr_model.specs.declared.zco.Extent.{Extent}
use Rattle.sdr_model.specs.declared.zco.Subject.{Subject}
use Rattle.sdr_model.specs.declared.zco.Subject.TheVariants as subjects
use Rattle.sdr_model.specs.declared.zco.ZcoObject.{ZcoObject}
use Rattle.step_zco.proofs.DestroyKept.{used}
use Rattle.step_zco.proofs.GoneTies.{leaves_none}
use Rattle.step_zco.proofs.GoneUses.{UsedSource, all_gone, gone_at, goes, named_of}
use Rattle.step_zco.proofs.GoneWorlds.{beside, own_blocks, own_first}
use Rattle.zco_obj.specs.Gone.{sources_entries}
use Rattle.zco_ref.specs.Kept.{raw_part, tied_entries}
use Rattle.step_zco.proofs.SourceLemmas.{counted_in}

-- extents go with the things that go with them
pub both_go : (w : World) (all es : List Extent) → length (gone_blocks w all es) ≡ length (gone_things w all es) + length es
both_go w all [] = omega arith
both_go w all (e ∷ es) =
    omega (
      arith,
      both_go w all es,
      length-append (gone_with w all es e) (e.block ∷ gone_blocks w all es),
      length-append (gone_with w all es e) (gone_things w all es),
    )

module _ (w : World) (all : List Extent) where
  -- what goes with a source is no more than its blocks
  one_few : (u : UsedSource w all) →
      length (gone_at w all u.addr u.source) ≤ length (tied_entries u.addr (counted_in w u.addr u.source) u.bytes)
  one_few u = let few = by (goes w all u.addr u.source) u.source.subject in omega (arith, few)
    where
      by : (b : Bool) (subject : Subject) →
          length (if b then option_to_list (taken_over subject) ++ u.addr ∷ [] else [])
          ≤ 1 + length (raw_part (medium_of subject) (subject_number subject) u.addr u.bytes)
      by false subject = omega arith
      by true (subjects.File path) = omega arith
      by true (subjects.Bulk item) = omega arith
      by true (subjects.Heap raw) = omega arith
      by true (subjects.Obj raw) = omega arith

  pub all_few : (us : List (UsedSource w all)) → length (all_gone w all us) ≤ length (sources_entries (map (named_of w all) us))
  all_few [] = omega arith
  all_few (u ∷ us) =
      omega (
        arith,
        all_few us,
        one_few u,
        length-append (gone_at w all u.addr u.source) (all_gone w all us),
        length-append (tied_entries u.addr (counted_in w u.addr u.source) u.bytes) (sources_entries (map (named_of w all) us)),
      )

-- each block that goes with an object of a world in blocks has 16 bytes of the heap for itself
pub destroyed_few : (heap : Heap) (w : World) (addr : ℕ) (z : ZcoObject) → HeapStandsFor heap w → FitTogether w →
    Few heap.size heap.blocks → thing_at w addr ≡ Some (things.Object z) →
    16 * length (destroyed_blocks w addr (Some z)) ≤ heap.size
destroyed_few heap w addr z s fits few there =
    let u = used w addr z fits there in
    let row = object_row z in
    let own = own_blocks w addr z there fits z.extents None (leaves_none z) u.sources u.are in
    let rest = beside w addr z there fits z.extents None (leaves_none z) u.sources u.are in
    let first = own_first w addr z there fits z.extents None (leaves_none z) u.sources u.are in
    let headers = capsule_entries row.headers in
    let extents = extent_entries row.extents in
    let trailers = capsule_entries row.trailers in
    let sources = sources_entries (map (named_of w z.extents) u.sources) in
    let block = λ (c : Capsule). c.block in
    let gone = gone_blocks w z.extents z.extents in
    let same = ap (λ (ks : List ℕ). length ks) u.are.gone in
    omega (
      arith,
      few.few ((own ++ rest) ++ other_entries w) (first.forth heap.blocks (other_entries w) s.blocks),
      both_go w z.extents z.extents,
      same,
      all_few w z.extents u.sources,
      length-append (own ++ rest) (other_entries w),
      length-append own rest,
      length-append (object_entries addr row) sources,
      length-append (headers ++ extents) trailers,
      length-append headers extents,
      length-linked capsule_addr capsule_block 0 0 row.headers,
      length-linked extent_addr extent_block 0 0 row.extents,
      length-linked capsule_addr capsule_block 0 0 row.trailers,
      length-map z.headers capsule_row,
      length-map z.extents extent_row,
      length-map z.trailers capsule_row,
      length-append (map block z.headers ++ gone ++ map block z.trailers) (addr ∷ []),
      length-append (map block z.headers ++ gone) (map block z.trailers),
      length-append (map block z.headers) gone,
      length-map z.headers block,
      length-map z.trailers block,
    )
