-- So many were passed, and nothing was written.
use Rattle.std.proofs.Common.{ℕ}
use Rattle.std.specs.Prelude.{Ok}
use Rattle.sdr_base.specs.Works.{Looks}
use Rattle.zco_strip.proofs.FindLemmas.{WalksTo}
use Rattle.zco_strip.proofs.finding.find_place.Given as goal

abbrev pub invariant-loop-i : goal.invariant-loop-i
invariant-loop-i g l = record {
  walks : WalksTo (g.O.HasHeap.heap l.fn.o).blocks l.first l.place l.last l.extent l.inside l.i;
  looks : Looks {T = ℕ} g.O.HasHeap l.fn.o l.o (Ok 0);
}
