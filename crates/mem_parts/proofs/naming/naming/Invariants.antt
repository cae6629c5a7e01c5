use Rattle.std.proofs.Common.{◌≡◌, ◌≤◌, take}
use Rattle.sdr_model.specs.Zco.{naming}
use Rattle.mem_parts.proofs.naming.naming.Given as goal

abbrev pub invariant-loop-extent : goal.invariant-loop-extent
invariant-loop-extent l = record {
  count : l.count ≡ naming l.source (take l.extent-index l.extents);
  small : l.count ≤ l.extent-index;
}
