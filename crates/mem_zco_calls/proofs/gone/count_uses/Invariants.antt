use Rattle.std.proofs.Common.{◌≡◌, Some, take}
use Rattle.std.specs.BTreeMap.{get}
use Rattle.std.specs.List.{All}
use Rattle.std.specs.Ordering.{nat_cmp}
use Rattle.sdr_model.specs.Zco.{uses_of}
use Rattle.mem_zco_calls.proofs.gone.count_uses.Given as goal

abbrev pub invariant-loop-extent : goal.invariant-loop-extent
invariant-loop-extent l = record {
  counted : All (λ e. get nat_cmp l.uses e.source ≡ Some (uses_of l.world.now e.source)) (take l.extent-index l.extents);
}
