-- The words of the part are read.
use Rattle.std.proofs.Common.{arith}
use Rattle.zco_obj.proofs.KeptLemmas.{object_reaches}
use Rattle.zco_wire.proofs.PartLemmas.{part_small, sees_part}
use Rattle.zco_wire.proofs.receiving.see_part.Goals as goal

pub word-requires-clause-inside : goal.word-requires-clause-inside
word-requires-clause-inside g c = object_reaches c.requires.object.keeps 64 (omega arith)

pub word-requires-2-clause-inside : goal.word-requires-2-clause-inside
word-requires-2-clause-inside g c = rw c.word.ensures.looks.same (object_reaches c.requires.object.keeps 72 (omega arith))

pub returns-clause-seen : goal.returns-clause-seen
returns-clause-seen g c =
    sees_part c.in_ok-offset.offset c.in_ok-length.length c.in_ok-offset.ensures.given
    (rw c.word.ensures.looks.same at c.in_ok-length.ensures.given)

pub returns-clause-small : goal.returns-clause-small
returns-clause-small g c =
    part_small c.in_ok-offset.offset c.in_ok-length.length c.requires.object c.in_ok-offset.ensures.given
    (rw c.word.ensures.looks.same at c.in_ok-length.ensures.given)
