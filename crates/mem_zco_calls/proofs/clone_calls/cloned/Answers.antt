use Rattle.std.proofs.Common.{◌+◌, ◌*◌, ◌∙◌, ℕ, List, ap, arith, length}
use Rattle.sdr_model.specs.Zco.{extents_length}
use Rattle.sdr_model.specs.declared.zco.Extent.{Extent}
use Rattle.sdr_model.specs.declared.zco.ZcoObject.{ZcoObject}
use Rattle.mem_zco_calls.proofs.CutLemmas.{length-cut, placed-length}
use Rattle.sdr_model.proofs.FewLemmas.{length-cut_all}
use Rattle.mem_zco_calls.proofs.clone_calls.cloned.Goals as goal

pub placed_behind-requires : goal.placed_behind-requires
placed_behind-requires c =
    let z : ZcoObject = c.args.object.now in
    let from : ℕ = z.part.offset + c.args.offset in
    record {
      room = omega (
        arith,
        c.requires.room,
        ap (λ (l : List Extent). length l) (c.as_slice.ensures ∙ c.in_ok-extents.ensures),
        length-cut_all from (from + c.args.bytes) z.extents,
      );
    }

pub object_of-requires : goal.object_of-requires
object_of-requires c =
    let z : ZcoObject = c.args.object.now in
    let from : ℕ = z.part.offset + c.args.offset in
    record {
      few = omega (
        arith,
        c.requires.bounded.extents,
        ap extents_length c.in_ok-placed.ensures,
        placed-length (λ i. c.args.addr + 8 * i) 1 c.as_slice.result.now,
        ap extents_length (c.as_slice.ensures ∙ c.in_ok-extents.ensures),
        length-cut from (from + c.args.bytes) z.extents,
      );
    }
