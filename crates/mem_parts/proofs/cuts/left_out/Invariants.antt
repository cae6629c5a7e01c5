use Rattle.std.proofs.Common.{◌≡◌, ◌++◌, drop}
use Rattle.sdr_model.specs.Cuts.{left_out}
use Rattle.mem_parts.proofs.cuts.left_out.Given as goal

abbrev pub invariant-loop-extent : goal.invariant-loop-extent
invariant-loop-extent l =
    l.out ++ left_out l.from l.to (drop l.extent-index l.extents) ≡ left_out l.initial.from l.initial.to l.extents
