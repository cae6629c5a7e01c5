-- The two words are read, and the places counted from the second.
use Rattle.std.proofs.Common.{arith}
use Rattle.zco_obj.proofs.KeptLemmas.{object_reaches}
use Rattle.zco_part.proofs.AskedLemmas.{asked_fits, kept_object, sees_asked}
use Rattle.zco_part.proofs.cloning.see_asked.Goals as goal

pub word-requires-clause-inside : goal.word-requires-clause-inside
word-requires-clause-inside g c = object_reaches (kept_object c.requires.object.keeps) 16 (omega arith)

pub word-requires-2-clause-inside : goal.word-requires-2-clause-inside
word-requires-2-clause-inside g c =
    rw c.word.ensures.looks.same (object_reaches (kept_object c.requires.object.keeps) 64 (omega arith))

pub overflow_add-from : goal.overflow_add-from
overflow_add-from g c =
    let w = rw c.word.ensures.looks.same at c.in_ok-start.ensures.given in
    let f = asked_fits c.args.offset c.args.bytes c.in_ok-start.start c.requires.object c.requires.has w in omega (arith, f)

pub overflow_add-result : goal.overflow_add-result
overflow_add-result g c =
    let w = rw c.word.ensures.looks.same at c.in_ok-start.ensures.given in
    let f = asked_fits c.args.offset c.args.bytes c.in_ok-start.start c.requires.object c.requires.has w in omega (arith, f)

pub returns-clause-seen : goal.returns-clause-seen
returns-clause-seen g c =
    sees_asked c.args.offset c.args.bytes c.in_ok-first.first c.in_ok-start.start c.in_ok-first.ensures.given
    (rw c.word.ensures.looks.same at c.in_ok-start.ensures.given)
