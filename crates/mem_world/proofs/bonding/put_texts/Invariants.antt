use Rattle.std.proofs.Common.{◌≡◌, ◌≤◌, ◌<◌, ◌+◌, ◌*◌, ℕ, length}
use Rattle.std.specs.Prelude.{Contains}
use Rattle.std.specs.Vec.Iter.{into_iter_items, into_iter_len}
use Rattle.mem_world.specs.Keeps.{SameBegin, StayTouched}
use Rattle.sdr_model.specs.BondSteps.{with_bonded}
use Rattle.sdr_model.specs.Dry.{next_addr}
use Rattle.mem_world.proofs.bonding.put_texts.Given as goal

abbrev pub invariant-loop-capsule : goal.invariant-loop-capsule
invariant-loop-capsule l = record {
  rest : into_iter_len l.capsule-iterator ≡ length (into_iter_items l.capsule-iterator);
  below : l.addr + 24 * length (into_iter_items l.capsule-iterator) ≤ next_addr l.world.now.taken;
  taken : l.world.now.taken ≡ l.initial.world.now.taken;
  touched : (k : ℕ) → k < 3 * length (into_iter_items l.capsule-iterator) → Contains l.world.touched (l.addr + 8 * k);
  put : with_bonded l.world.now (λ k. l.addr + 8 * k) 0 (into_iter_items l.capsule-iterator)
      ≡ with_bonded l.initial.world.now (λ k. l.fn.first + 8 * k) 0 l.fn.capsules.items;
  owners : l.world.owners ≡ l.initial.world.owners;
  others : StayTouched l.initial.world l.world;
  keeps : SameBegin l.initial.world l.world;
}
