-- Its number is low enough, and it is admitted.
use Rattle.std.proofs.Common.{arith}
use Rattle.std.proofs.lemmas.Result.{IfErr-weaker, err_from_is_err_and}
use Rattle.bp_queue.specs.Putting.{NewStops}
use Rattle.bp_queue.proofs.LastLemmas.{new_fault, new_lacks}
use Rattle.bp_queue.proofs.putting.put_new.Goals as goal

pub returns-in_err-check_failed-clause-refused : goal.returns-in_err-check_failed-clause-refused
returns-in_err-check_failed-clause-refused g c =
    let p = err_from_is_err_and c.from_residual.result c.from_residual.ensures.1 in
    rw (p.1, p.2)
    (new_fault c.args.wanted.number (g.O.HasHeap.heap c.args.o.now) _ _ c.in_err-check_failed.ensures.refused)

pub returns-clause-refused : goal.returns-clause-refused
returns-clause-refused g c =
    let old = g.O.HasHeap.heap c.args.o.now in
    let new = g.O.HasHeap.heap c.admit.new.o in
    IfErr-weaker _ _ (NewStops c.args.wanted.number old new)
    (λ stop l. new_lacks c.args.wanted.number old new stop (omega arith) l) c.admit.ensures.refused
