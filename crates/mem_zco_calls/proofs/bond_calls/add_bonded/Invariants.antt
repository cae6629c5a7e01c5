use Rattle.std.proofs.Common.{◌≡◌, ◌+◌, ◌*◌, ◌++◌, drop}
use Rattle.sdr_model.specs.BondSteps.{bonded_extents}
use Rattle.mem_zco_calls.proofs.bond_calls.add_bonded.Given as goal

abbrev pub invariant-loop-capsule : goal.invariant-loop-capsule
invariant-loop-capsule l = record {
  next : l.next ≡ l.first + 24 * l.capsule-index;
  made : l.extents ++ bonded_extents (λ k. l.next + 8 * k) 0 (drop l.capsule-index l.capsules)
      ≡ l.initial.extents ++ bonded_extents (λ k. l.first + 8 * k) 0 l.capsules;
}
