use Rattle.std.proofs.Common.{◌≡◌, ◌++◌, take}
use Rattle.mem_zco_calls.proofs.bond_calls.add_copies.Given as goal

abbrev pub invariant-loop-capsule : goal.invariant-loop-capsule
invariant-loop-capsule l = l.copies.items ≡ l.initial.copies.items ++ take l.capsule-index l.capsules
