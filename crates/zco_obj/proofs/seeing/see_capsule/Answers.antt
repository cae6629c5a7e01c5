-- The link is read, and the text's bytes are those behind it.
use Rattle.std.proofs.Common.{◌∙◌, sym}
use Rattle.zco_obj.proofs.WalkLemmas.{capsule_long, capsule_reaches, capsule_short, sees_capsule}
use Rattle.zco_obj.proofs.seeing.see_capsule.Goals as goal

pub word-requires-clause-inside : goal.word-requires-clause-inside
word-requires-clause-inside g c = capsule_reaches c.requires.capsule.keeps

pub overflow_sub-bytes : goal.overflow_sub-bytes
overflow_sub-bytes g c =
    capsule_long c.in-Some.field-0-0 c.in-Some.all c.requires.capsule
    (sym c.in-Some.is ∙ rw c.word.ensures.looks.same at c.in_ok-all.ensures.found)

pub returns-in-Some-clause-seen : goal.returns-in-Some-clause-seen
returns-in-Some-clause-seen g c =
    sees_capsule c.in-Some.field-0-0 c.in-Some.all c.in_ok-next.next
    (sym c.in-Some.is ∙ rw c.word.ensures.looks.same at c.in_ok-all.ensures.found) c.in_ok-next.ensures.given

pub returns-in-Some-clause-short : goal.returns-in-Some-clause-short
returns-in-Some-clause-short g c =
    capsule_short c.in-Some.field-0-0 c.in-Some.all c.requires.capsule
    (sym c.in-Some.is ∙ rw c.word.ensures.looks.same at c.in_ok-all.ensures.found)
