-- The words of the block are read one by one.
use Rattle.std.proofs.Common.{arith}
use Rattle.zco_ref.proofs.KeptLemmas.{source_reaches}
use Rattle.zco_ref.proofs.SeenLemmas.{sees}
use Rattle.zco_ref.proofs.seeing.see.Goals as goal

pub word-requires-clause-inside : goal.word-requires-clause-inside
word-requires-clause-inside g c = source_reaches c.requires.source.keeps 8 (omega arith)

pub word-requires-2-clause-inside : goal.word-requires-2-clause-inside
word-requires-2-clause-inside g c = rw c.word.ensures.looks.same (source_reaches c.requires.source.keeps 16 (omega arith))

pub word-requires-3-clause-inside : goal.word-requires-3-clause-inside
word-requires-3-clause-inside g c =
    rw (c.word-2.ensures.looks.same, c.word.ensures.looks.same) (source_reaches c.requires.source.keeps 24 (omega arith))

pub word-requires-4-clause-inside : goal.word-requires-4-clause-inside
word-requires-4-clause-inside g c =
    rw (c.word-3.ensures.looks.same, c.word-2.ensures.looks.same, c.word.ensures.looks.same)
    (source_reaches c.requires.source.keeps 32 (omega arith))

pub word-requires-5-clause-inside : goal.word-requires-5-clause-inside
word-requires-5-clause-inside g c =
    rw (c.word-4.ensures.looks.same, c.word-3.ensures.looks.same, c.word-2.ensures.looks.same, c.word.ensures.looks.same)
    (source_reaches c.requires.source.keeps 40 (omega arith))

pub returns-clause-seen : goal.returns-clause-seen
returns-clause-seen g c =
    sees c.in_ok-flag.flag c.medium_of.result c.in_ok-medium.ensures.given
    (rw c.word.ensures.looks.same at c.in_ok-flag.ensures.given)
    (rw (c.word-2.ensures.looks.same, c.word.ensures.looks.same) at c.in_ok-inbound.ensures.given)
    (rw (c.word-3.ensures.looks.same, c.word-2.ensures.looks.same, c.word.ensures.looks.same) at c.in_ok-outbound.ensures.given)
    (rw (c.word-4.ensures.looks.same, c.word-3.ensures.looks.same, c.word-2.ensures.looks.same, c.word.ensures.looks.same)
    at c.in_ok-subject.ensures.given)
    c.medium_of.ensures
