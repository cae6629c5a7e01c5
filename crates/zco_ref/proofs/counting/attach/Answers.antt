-- The count is read, and set to one more.
use Rattle.std.proofs.Common.{arith}
use Rattle.std.proofs.lemmas.Result.{on_ok_weaker}
use Rattle.zco_ref.proofs.CountedLemmas.{attaches, field_below, more_fits}
use Rattle.zco_ref.proofs.KeptLemmas.{count_reaches}
use Rattle.zco_ref.proofs.counting.attach.Goals as goal

pub word-requires-clause-small : goal.word-requires-clause-small
word-requires-clause-small g c = let e = c.count_field-field.ensures in let b = field_below c.args.acct in omega (arith, e, b)

pub word-requires-clause-inside : goal.word-requires-clause-inside
word-requires-clause-inside g c = rw c.count_field-field.ensures (count_reaches c.requires.source.keeps c.args.acct)

pub overflow_add-count : goal.overflow_add-count
overflow_add-count g c =
    let n = more_fits c.args.acct c.in_ok-count.count c.requires.source
    (rw c.count_field-field.ensures at c.in_ok-count.ensures.given) in omega (arith, n)

pub set_word-requires-clause-inside : goal.set_word-requires-clause-inside
set_word-requires-clause-inside g c =
    rw (c.word.ensures.looks.same, c.count_field-field.ensures) (count_reaches c.requires.source.keeps c.args.acct)

pub returns-clause-attached : goal.returns-clause-attached
returns-clause-attached g c =
    on_ok_weaker _
    (λ w. attaches c.args.acct c.in_ok-count.count (rw c.count_field-field.ensures at c.in_ok-count.ensures.given) w)
    (rw (c.word.ensures.looks.same, c.count_field-field.ensures) at c.set_word.ensures.written)
