-- Some first ones are gone.
use Rattle.std.proofs.Common.{ℕ}
use Rattle.std.specs.Prelude.{Ok}
use Rattle.sdr_base.specs.Works.{Spends}
use Rattle.zco_join.specs.Leaving.{Doomed, KeepsToDestroy}
use Rattle.zco_join.proofs.DestroyedLemmas.{DestroyedSoFar, Went}
use Rattle.zco_join.proofs.joining.destroy_clones.Given as goal

abbrev pub invariant-loop-part : goal.invariant-loop-part
invariant-loop-part g l = record {
  goes : DestroyedSoFar l.parts (g.O.HasHeap.heap l.fn.o) (g.O.HasHeap.heap l.o) l.part-index;
  works : (d : Doomed) → KeepsToDestroy (g.O.HasHeap.heap l.fn.o) l.parts d →
      (lines : ℕ) × Went d goes.passed.left (g.O.HasHeap.heap l.fn.o) (g.O.HasHeap.heap l.o) lines × Spends {T = ℕ} g.O.HasHeap lines l.fn.o l.o (Ok 0);
}
