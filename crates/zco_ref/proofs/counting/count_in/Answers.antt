-- The count of the account's extents is read.
use Rattle.std.proofs.Common.{arith}
use Rattle.std.proofs.lemmas.Result.{IfOk-weaker}
use Rattle.zco_ref.specs.Counting.{CountsIn}
use Rattle.zco_ref.proofs.CountedLemmas.{field_below}
use Rattle.zco_ref.proofs.KeptLemmas.{count_is, count_reaches}
use Rattle.zco_ref.proofs.counting.count_in.Goals as goal

pub word-requires-clause-small : goal.word-requires-clause-small
word-requires-clause-small g c = let e = c.count_field.ensures in let b = field_below c.args.acct in omega (arith, e, b)

pub word-requires-clause-inside : goal.word-requires-clause-inside
word-requires-clause-inside g c =
    rw (c.expect_kind.ensures.looks.same, c.count_field.ensures)
    (count_reaches (c.requires.source c.in_ok-expect_kind.ensures.found).keeps c.args.acct)

pub returns-clause-given : goal.returns-clause-given
returns-clause-given g c =
    IfOk-weaker _ _ (CountsIn c.args.acct ((g.O.HasHeap.heap c.args.o.now).blocks c.args.source))
    (λ value h. record {
      kind = c.in_ok-expect_kind.ensures.found;
      tells = λ s k. count_is k c.args.acct h;
    })
    (rw (c.expect_kind.ensures.looks.same, c.count_field.ensures) at c.word.ensures.given)
