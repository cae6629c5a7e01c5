-- The words of the block are read one by one.
use Rattle.std.proofs.Common.{arith}
use Rattle.zco_obj.proofs.WalkLemmas.{extent_reaches, extent_short, sees_extent}
use Rattle.zco_obj.proofs.seeing.see_extent.Goals as goal

pub word-requires-clause-inside : goal.word-requires-clause-inside
word-requires-clause-inside g c = extent_reaches c.requires.extent.keeps 8 (omega arith)

pub word-requires-2-clause-inside : goal.word-requires-2-clause-inside
word-requires-2-clause-inside g c = rw c.word.ensures.looks.same (extent_reaches c.requires.extent.keeps 24 (omega arith))

pub word-requires-3-clause-inside : goal.word-requires-3-clause-inside
word-requires-3-clause-inside g c =
    rw (c.word-2.ensures.looks.same, c.word.ensures.looks.same) (extent_reaches c.requires.extent.keeps 32 (omega arith))

pub returns-clause-seen : goal.returns-clause-seen
returns-clause-seen g c =
    sees_extent c.in_ok-source.source c.in_ok-length.length c.in_ok-next.next c.in_ok-source.ensures.given
    (rw c.word.ensures.looks.same at c.in_ok-length.ensures.given)
    (rw (c.word-2.ensures.looks.same, c.word.ensures.looks.same) at c.in_ok-next.ensures.given)

pub returns-clause-short : goal.returns-clause-short
returns-clause-short g c = extent_short c.requires.extent (rw c.word.ensures.looks.same at c.in_ok-length.ensures.given)
