-- The bytes of the words are their layout.
use Rattle.std.proofs.Common.{List, ℕ, ◌∙◌, subst}
use Rattle.std.specs.Prelude.{IfOk}
use Rattle.sdr_base.specs.Words.{TakesBytes}
use Rattle.sdr_base.specs.declared.kind.Kind.TheVariants as kinds
use Rattle.sdr_base.proofs.ObjectsLemmas.{layout-words}
use Rattle.zco_part.proofs.copying.take_extent.Goals as goal

pub returns-clause-taken : goal.returns-clause-taken
returns-clause-taken g c =
    subst
    (λ (l : List ℕ). IfOk c.take_bytes.result (λ addr.
    TakesBytes kinds.Extent l addr (g.O.HasHeap.heap c.args.o.now) (g.O.HasHeap.heap c.take_bytes.new.o)))
    (c.write_u64_into.ensures ∙ layout-words _) c.take_bytes.ensures.taken
