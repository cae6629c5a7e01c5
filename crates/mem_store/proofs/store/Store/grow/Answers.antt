use Rattle.std.proofs.Common.{sym, subst}
use Rattle.std.specs.List.{Contains}
use Rattle.mem_store.proofs.store.Store.grow.Goals as goal

pub returns-clause-others : goal.returns-clause-others
returns-clause-others c other has =
    subst (λ xs. Contains xs other) (sym c.add.ensures.touched) (c.in_ok-touch.ensures.others other has)
