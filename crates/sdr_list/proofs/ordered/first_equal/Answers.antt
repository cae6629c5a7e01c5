-- The list is walked from its front on.
use Rattle.std.proofs.Common.{arith, sym, ◌∙◌}
use Rattle.sdr_base.proofs.WritingLemmas.{reaches_less}
use Rattle.sdr_list.proofs.KeptLemmas.{list_reaches}
use Rattle.sdr_list.proofs.OrderedLemmas.{on_equal, on_next, on_none, on_reaches, on_start}
use Rattle.sdr_base.proofs.WorksLemmas.{looks_looks, looks_ok}
use Rattle.sdr_list.proofs.ordered.first_equal.Goals as goal

pub word-requires-clause-inside : goal.word-requires-clause-inside
word-requires-clause-inside g c = reaches_less _ 32 _ (list_reaches c.requires.list.keeps) (omega arith)

pub word-requires-2-clause-inside : goal.word-requires-2-clause-inside
word-requires-2-clause-inside g c =
    rw c.word.ensures.looks.same (reaches_less _ 32 _ (list_reaches c.requires.list.keeps) (omega arith))

pub loop-i-init : goal.loop-i-init
loop-i-init g c = record {
  walks = on_start (rw c.word.ensures.looks.same at c.in_ok-cursor.ensures.given);
  looks = looks_ok (looks_looks c.in_ok-length.ensures.looks c.in_ok-cursor.ensures.looks);
}

pub compare_element-requires-clause-element : goal.compare_element-requires-clause-element
compare_element-requires-clause-element g c =
    rw c.loop-i.invariant.looks.same
    (on_reaches c.ranges.list.fits c.in_ok-length.ensures.given (omega arith) c.requires.list c.loop-i.invariant.walks)

pub returns-then-is_eq-clause-found : goal.returns-then-is_eq-clause-found
returns-then-is_eq-clause-found g c =
    let compared = rw c.loop-i.invariant.looks.same at c.in_ok-answer.ensures.compared in
    on_equal c.ranges.list.fits c.in_ok-length.ensures.given (omega arith) c.loop-i.invariant.walks compared (sym c.is_eq.ensures ∙ c.if-is_eq.true)

pub word-requires-in-loop-i-clause-inside : goal.word-requires-in-loop-i-clause-inside
word-requires-in-loop-i-clause-inside g c =
    rw (c.compare_element.ensures.looks.same, c.loop-i.invariant.looks.same)
    (reaches_less _ 32 _ (on_reaches c.ranges.list.fits c.in_ok-length.ensures.given (omega arith) c.requires.list c.loop-i.invariant.walks) (omega arith))

pub loop-i-preserved : goal.loop-i-preserved
loop-i-preserved g c =
    let compared = rw c.loop-i.invariant.looks.same at c.in_ok-answer.ensures.compared in
    let next = rw (c.compare_element.ensures.looks.same, c.loop-i.invariant.looks.same) at c.in_ok-cursor-2.ensures.given in
    record {
      walks = on_next c.ranges.list.fits c.in_ok-length.ensures.given (omega arith) c.loop-i.invariant.walks compared (sym c.is_eq.ensures ∙ c.if-is_eq.false) next;
      looks =
          looks_ok (looks_looks (looks_looks c.loop-i.invariant.looks c.in_ok-answer.ensures.looks) c.in_ok-cursor-2.ensures.looks);
    }

pub returns-clause-found : goal.returns-clause-found
returns-clause-found g c = on_none c.in_ok-length.ensures.given (omega arith) c.loop-i.invariant.walks
