-- The bytes are the entry's.
use Rattle.std.proofs.Common.{ℕ, List, subst}
use Rattle.std.specs.Prelude.{IfOk}
use Rattle.sdr_base.specs.Words.{TakesBytes}
use Rattle.sdr_base.specs.declared.kind.Kind.TheVariants as kinds
use Rattle.sdr_cat.proofs.linking.take_entry.Goals as goal

pub returns-clause-taken : goal.returns-clause-taken
returns-clause-taken g c =
    subst
    (λ (l : List ℕ). IfOk c.take_bytes.result (λ addr.
    TakesBytes kinds.Name l addr (g.O.HasHeap.heap c.args.o.now) (g.O.HasHeap.heap c.take_bytes.new.o)))
    c.entry_bytes.ensures c.take_bytes.ensures.taken
