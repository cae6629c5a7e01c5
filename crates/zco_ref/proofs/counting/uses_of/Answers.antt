-- Both counts are read, and added.
use Rattle.std.proofs.Common.{arith}
use Rattle.zco_ref.proofs.CountedLemmas.{uses_fit, uses_told}
use Rattle.zco_ref.proofs.KeptLemmas.{source_reaches}
use Rattle.zco_ref.proofs.counting.uses_of.Goals as goal

pub word-requires-clause-inside : goal.word-requires-clause-inside
word-requires-clause-inside g c = source_reaches c.requires.source.keeps 24 (omega arith)

pub word-requires-2-clause-inside : goal.word-requires-2-clause-inside
word-requires-2-clause-inside g c = rw c.word.ensures.looks.same (source_reaches c.requires.source.keeps 32 (omega arith))

pub overflow_add-result : goal.overflow_add-result
overflow_add-result g c =
    let fits = uses_fit c.in_ok-inbound.inbound c.in_ok-outbound.outbound c.requires.source c.in_ok-inbound.ensures.given
    (rw c.word.ensures.looks.same at c.in_ok-outbound.ensures.given) in omega (arith, fits)

pub returns-clause-given : goal.returns-clause-given
returns-clause-given g c =
    uses_told c.in_ok-inbound.inbound c.in_ok-outbound.outbound c.in_ok-inbound.ensures.given (rw c.word.ensures.looks.same at c.in_ok-outbound.ensures.given)
