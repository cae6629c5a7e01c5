-- The words of the block are read.
use Rattle.std.proofs.Common.{arith}
use Rattle.zco_obj.proofs.WalkLemmas.{extent_reaches}
use Rattle.zco_obj.proofs.LinkLemmas.{link_ends, sees_link}
use Rattle.zco_obj.proofs.link.see_link.Goals as goal

pub word-requires-clause-inside : goal.word-requires-clause-inside
word-requires-clause-inside g c = rw c.see_extent.ensures.looks.same (extent_reaches c.requires.extent.keeps 16 (omega arith))

pub returns-clause-seen : goal.returns-clause-seen
returns-clause-seen g c =
    sees_link c.in_ok-seen.seen c.in_ok-offset.offset c.in_ok-seen.ensures.seen
    (rw c.see_extent.ensures.looks.same at c.in_ok-offset.ensures.given)

pub returns-clause-ends : goal.returns-clause-ends
returns-clause-ends g c =
    link_ends c.in_ok-seen.seen c.in_ok-offset.offset c.requires.extent c.in_ok-seen.ensures.seen
    (rw c.see_extent.ensures.looks.same at c.in_ok-offset.ensures.given)
