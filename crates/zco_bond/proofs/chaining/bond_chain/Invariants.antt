-- So many have become extents.
use Rattle.std.proofs.Common.{ℕ}
use Rattle.std.specs.Prelude.{Ok}
use Rattle.sdr_base.specs.Works.{Spends}
use Rattle.zco_bond.proofs.ChainLemmas.{BondedSoFar}
use Rattle.zco_bond.proofs.chaining.bond_chain.Given as goal

abbrev pub invariant-loop-i : goal.invariant-loop-i
invariant-loop-i g l =
    BondedSoFar l.acct l.first l.gap (λ n. Spends {T = ℕ} g.O.HasHeap n l.fn.o l.o (Ok 0)) (g.O.HasHeap.heap l.fn.o) (g.O.HasHeap.heap l.o)
    l.capsule l.i l.chain
