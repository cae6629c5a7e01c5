-- Its words are read.
use Rattle.std.proofs.Common.{arith}
use Rattle.zco_obj.proofs.SourceLemmas.{sees_source}
use Rattle.zco_ref.proofs.KeptLemmas.{source_reaches}
use Rattle.zco_obj.proofs.seeing.see_source.Goals as goal

pub word-requires-clause-inside : goal.word-requires-clause-inside
word-requires-clause-inside g c = source_reaches c.requires.source.keeps 8 (omega arith)

pub word-requires-2-clause-inside : goal.word-requires-2-clause-inside
word-requires-2-clause-inside g c = rw c.word.ensures.looks.same (source_reaches c.requires.source.keeps 16 (omega arith))

pub word-requires-3-clause-inside : goal.word-requires-3-clause-inside
word-requires-3-clause-inside g c =
    rw (c.word-2.ensures.looks.same, c.word.ensures.looks.same) (source_reaches c.requires.source.keeps 48 (omega arith))

pub returns-clause-seen : goal.returns-clause-seen
returns-clause-seen g c =
    let f = rw c.word.ensures.looks.same at c.in_ok-flag.ensures.given in
    let b = rw (c.word-2.ensures.looks.same, c.word.ensures.looks.same) at c.in_ok-bytes.ensures.given in
    sees_source c.in_ok-medium.medium c.in_ok-flag.flag c.in_ok-bytes.bytes c.space_of.result c.in_ok-medium.ensures.given f b
    c.space_of.ensures
