-- So many buckets are gone, and so many entries are left.
use Rattle.std.proofs.Common.{ℕ, ◌*◌, ◌-◌, ◌≤◌}
use Rattle.std.specs.Prelude.{Ok}
use Rattle.sdr_base.specs.Works.{Spends}
use Rattle.sdr_hash.specs.Destroying.{GivesBuckets, entries_in}
use Rattle.sdr_hash.proofs.destroying.destroy.Given as goal

abbrev pub invariant-loop-bucket : goal.invariant-loop-bucket
invariant-loop-bucket g l = record {
  gives : GivesBuckets (g.O.HasHeap.heap l.fn.o) (g.O.HasHeap.heap l.o) l.hash l.bucket l.left;
  less : l.left ≤ entries_in ((g.O.HasHeap.heap l.fn.o).blocks l.hash);
  works : Spends {T = ℕ} g.O.HasHeap (24 * (entries_in ((g.O.HasHeap.heap l.fn.o).blocks l.hash) - l.left)) l.fn.o l.o (Ok 0);
}
