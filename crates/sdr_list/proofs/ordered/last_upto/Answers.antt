-- The list is walked from its end on.
use Rattle.std.proofs.Common.{arith, sym, ◌∙◌}
use Rattle.sdr_base.proofs.WritingLemmas.{reaches_less}
use Rattle.sdr_list.proofs.KeptLemmas.{list_reaches}
use Rattle.sdr_list.proofs.OrderedLemmas.{back_next, back_none, back_place, back_reaches, back_start}
use Rattle.sdr_base.proofs.WorksLemmas.{looks_looks, looks_ok}
use Rattle.sdr_list.proofs.ordered.last_upto.Goals as goal

pub word-requires-clause-inside : goal.word-requires-clause-inside
word-requires-clause-inside g c = reaches_less _ 32 _ (list_reaches c.requires.list.keeps) (omega arith)

pub word-requires-2-clause-inside : goal.word-requires-2-clause-inside
word-requires-2-clause-inside g c =
    rw c.word.ensures.looks.same (reaches_less _ 32 _ (list_reaches c.requires.list.keeps) (omega arith))

pub loop-i-init : goal.loop-i-init
loop-i-init g c = record {
  walks = back_start (rw c.word.ensures.looks.same at c.in_ok-cursor.ensures.given);
  looks = looks_ok (looks_looks c.in_ok-length.ensures.looks c.in_ok-cursor.ensures.looks);
}

pub compare_element-requires-clause-element : goal.compare_element-requires-clause-element
compare_element-requires-clause-element g c =
    rw c.loop-i.invariant.looks.same
    (back_reaches c.ranges.list.fits c.in_ok-length.ensures.given (omega arith) c.requires.list c.loop-i.invariant.walks)

pub returns-then-not-is_gt-clause-found : goal.returns-then-not-is_gt-clause-found
returns-then-not-is_gt-clause-found g c =
    let compared = rw c.loop-i.invariant.looks.same at c.in_ok-answer.ensures.compared in
    back_place c.ranges.list.fits c.in_ok-length.ensures.given (omega arith) c.loop-i.invariant.walks compared (sym c.is_gt.ensures ∙ c.if-not-is_gt.true)

pub word-requires-in-loop-i-clause-inside : goal.word-requires-in-loop-i-clause-inside
word-requires-in-loop-i-clause-inside g c =
    rw (c.compare_element.ensures.looks.same, c.loop-i.invariant.looks.same)
    (reaches_less _ 32 _ (back_reaches c.ranges.list.fits c.in_ok-length.ensures.given (omega arith) c.requires.list c.loop-i.invariant.walks) (omega arith))

pub loop-i-preserved : goal.loop-i-preserved
loop-i-preserved g c =
    let compared = rw c.loop-i.invariant.looks.same at c.in_ok-answer.ensures.compared in
    let next = rw (c.compare_element.ensures.looks.same, c.loop-i.invariant.looks.same) at c.in_ok-cursor-2.ensures.given in
    record {
      walks = back_next c.ranges.list.fits c.in_ok-length.ensures.given (omega arith) c.loop-i.invariant.walks compared (sym c.is_gt.ensures ∙ c.if-not-is_gt.false) next;
      looks =
          looks_ok (looks_looks (looks_looks c.loop-i.invariant.looks c.in_ok-answer.ensures.looks) c.in_ok-cursor-2.ensures.looks);
    }

pub returns-clause-found : goal.returns-clause-found
returns-clause-found g c = back_none c.in_ok-length.ensures.given (omega arith) c.loop-i.invariant.walks
