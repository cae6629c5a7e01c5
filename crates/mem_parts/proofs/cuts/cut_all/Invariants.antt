use Rattle.std.proofs.Common.{◌≡◌, ◌++◌, drop}
use Rattle.sdr_model.specs.Cuts.{cut_all}
use Rattle.mem_parts.proofs.cuts.cut_all.Given as goal

abbrev pub invariant-loop-extent : goal.invariant-loop-extent
invariant-loop-extent l =
    l.cuts ++ cut_all l.from l.to (drop l.extent-index l.extents) ≡ cut_all l.initial.from l.initial.to l.extents
