use Rattle.std.proofs.Common.{◌≡◌, ℕ, true, length}
use Rattle.std.specs.List.{Contains}
use Rattle.mem_store.specs.Store.{now_at, saved_at, staying, things_at, things_of}
use Rattle.mem_store.specs.Tallies.{AreTallied}
use Rattle.mem_store.proofs.store.Store.settle.Given as goal

abbrev pub invariant-loop-addr : goal.invariant-loop-addr
invariant-loop-addr l = record {
  things : things_at (staying l.stays) l.self-inside.places.entries ≡ things_of l.stays l.fn.self;
  among : (q : ℕ) → saved_at l.self-inside.places.entries q ≡ true → Contains l.self-inside.touched.items q;
  tallied : AreTallied (things_at now_at l.self-inside.places.entries) l.self-inside.tallies;
}

abbrev pub decreases-loop-addr : goal.decreases-loop-addr
decreases-loop-addr l = length l.self-inside.touched.items
