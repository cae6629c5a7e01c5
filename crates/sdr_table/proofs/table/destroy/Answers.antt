-- The block is gone.
use Rattle.std.proofs.lemmas.Result.{on_ok_weaker}
use Rattle.sdr_table.proofs.MadeLemmas.{destroyed}
use Rattle.sdr_table.proofs.table.destroy.Goals as goal

pub returns-clause-destroyed : goal.returns-clause-destroyed
returns-clause-destroyed g c =
    on_ok_weaker _
    (λ w. destroyed {old = g.O.HasHeap.heap c.args.o.now} {new = g.O.HasHeap.heap c.give.new.self}
    c.in_ok-expect_kind.ensures.found w)
    (rw c.expect_kind.ensures.looks.same at c.give.ensures.given)
