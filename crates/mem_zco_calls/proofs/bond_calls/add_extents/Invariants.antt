use Rattle.std.proofs.Common.{◌≡◌, ◌++◌, take}
use Rattle.mem_zco_calls.proofs.bond_calls.add_extents.Given as goal

abbrev pub invariant-loop-extent : goal.invariant-loop-extent
invariant-loop-extent l = l.extents ≡ l.initial.extents ++ take l.extent-index l.more
