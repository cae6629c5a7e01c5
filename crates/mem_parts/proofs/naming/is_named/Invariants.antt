use Rattle.std.proofs.Common.{◌≡◌, take}
use Rattle.sdr_model.specs.Zco.{naming}
use Rattle.mem_parts.proofs.naming.is_named.Given as goal

abbrev pub invariant-loop-extent : goal.invariant-loop-extent
invariant-loop-extent l = naming l.source (take l.extent-index l.extents) ≡ 0
