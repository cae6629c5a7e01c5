-- The counts of the source that is there.
use Rattle.std.proofs.lemmas.Result.{IfOk-weaker}
use Rattle.zco_ref.specs.Counting.{CountsUses}
use Rattle.zco_ref.proofs.counting.count.Goals as goal

pub returns-clause-given : goal.returns-clause-given
returns-clause-given g c =
    IfOk-weaker _ _ (CountsUses ((g.O.HasHeap.heap c.args.o.now).blocks c.args.source))
    (λ value t. record { kind = c.in_ok-expect_kind.ensures.found; uses = t })
    (rw c.expect_kind.ensures.looks.same at c.uses_of.ensures.given)
