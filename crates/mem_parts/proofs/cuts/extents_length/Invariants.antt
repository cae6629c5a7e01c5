use Rattle.std.proofs.Common.{◌≡◌, take}
use Rattle.sdr_model.specs.Zco.{extents_length}
use Rattle.mem_parts.proofs.cuts.extents_length.Given as goal

abbrev pub invariant-loop-extent : goal.invariant-loop-extent
invariant-loop-extent l = l.bytes ≡ extents_length (take l.extent-index l.extents)
