-- So many have gone.
use Rattle.bp_queue.proofs.GoesLemmas.{Goes}
use Rattle.bp_queue.proofs.expiring.expire.Given as goal

abbrev pub invariant-loop-i : goal.invariant-loop-i
invariant-loop-i g l = Goes g.O.HasHeap l.q l.now l.fn.o l.o l.i
