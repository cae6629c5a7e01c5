-- Three words are read.
use Rattle.std.proofs.Common.{arith}
use Rattle.zco_strip.proofs.SpanLemmas.{some_reaches, span_short, span_told}
use Rattle.zco_strip.proofs.stripping.part_span.Goals as goal

pub word-requires-clause-inside : goal.word-requires-clause-inside
word-requires-clause-inside g c = some_reaches c.requires.object 16 (omega arith)

pub word-requires-2-clause-inside : goal.word-requires-2-clause-inside
word-requires-2-clause-inside g c = rw c.word.ensures.looks.same (some_reaches c.requires.object 64 (omega arith))

pub word-requires-3-clause-inside : goal.word-requires-3-clause-inside
word-requires-3-clause-inside g c =
    rw (c.word-2.ensures.looks.same, c.word.ensures.looks.same) (some_reaches c.requires.object 72 (omega arith))

pub overflow_add-result : goal.overflow_add-result
overflow_add-result g c =
    let o = rw c.word.ensures.looks.same at c.in_ok-from.ensures.given in
    let b = rw (c.word-2.ensures.looks.same, c.word.ensures.looks.same) at c.in_ok-bytes.ensures.given in
    let s = span_short c.in_ok-from.from c.in_ok-bytes.bytes c.requires.object o b in omega (arith, s)

pub returns-clause-told : goal.returns-clause-told
returns-clause-told g c =
    let o = rw c.word.ensures.looks.same at c.in_ok-from.ensures.given in
    let b = rw (c.word-2.ensures.looks.same, c.word.ensures.looks.same) at c.in_ok-bytes.ensures.given in
    span_told c.in_ok-first.first c.in_ok-from.from c.in_ok-bytes.bytes c.in_ok-first.ensures.given o b
