use Rattle.std.proofs.Common.{◌≡◌, map, drop}
use Rattle.sdr_model.specs.Things.{block_among, block_for_extent}
use Rattle.sdr_model.proofs.zco.extent_among.Given as goal

abbrev pub invariant-loop-extent : goal.invariant-loop-extent
invariant-loop-extent l =
    block_among l.addr (map block_for_extent l.extents) ≡ block_among l.addr (map block_for_extent (drop l.extent-index l.extents))
