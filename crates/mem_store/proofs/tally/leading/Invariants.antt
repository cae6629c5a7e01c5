use Rattle.std.proofs.Common.{◌≡◌, ◌==◌, ℕ, if◌then◌else◌, take}
use Rattle.sdr_model.specs.Zco.{naming}
use Rattle.mem_store.proofs.tally.leading.Given as goal

abbrev pub invariant-loop-extent : goal.invariant-loop-extent
invariant-loop-extent l = record {
  run : l.run ≡ l.extent-index;
  naming : (at : ℕ) → naming at (take l.run l.extents) ≡ (if l.source == at then l.run else 0);
}
