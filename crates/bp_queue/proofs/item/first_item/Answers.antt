-- The first element names it.
use Rattle.std.proofs.lemmas.Result.{err_from_is_err_and}
use Rattle.bp_queue.proofs.FirstLemmas.{element_only, first_spot, tells_none, tells_some}
use Rattle.bp_queue.proofs.QueueLemmas.{missed_only}
use Rattle.bp_queue.proofs.item.first_item.Goals as goal

pub returns-in_err-first-clause-refused : goal.returns-in_err-first-clause-refused
returns-in_err-first-clause-refused g c =
    let p = err_from_is_err_and c.from_residual.result c.from_residual.ensures.1 in
    rw (p.1, p.2) (missed_only c.requires.list.keeps _ c.in_err-first.ensures.refused)

pub returns-then-first-eq0-clause-told : goal.returns-then-first-eq0-clause-told
returns-then-first-eq0-clause-told g c = tells_none c.in_ok-first.ensures.given c.if-first-eq0.true

pub datum-requires-clause-element : goal.datum-requires-clause-element
datum-requires-clause-element g c =
    rw c.first.ensures.looks.same
    (λ kind. first_spot c.in_ok-first.ensures.given c.if-first-eq0.false c.ranges.list.fits c.requires.list)

pub returns-in_err-item-clause-refused : goal.returns-in_err-item-clause-refused
returns-in_err-item-clause-refused g c =
    let p = err_from_is_err_and c.from_residual-in_err-item.result c.from_residual-in_err-item.ensures.1 in
    rw (p.1, p.2)
    (element_only c.in_ok-first.ensures.given c.if-first-eq0.false c.ranges.list.fits c.requires.list _
    (rw c.first.ensures.looks.same at c.in_err-item.ensures.refused))

pub returns-clause-told : goal.returns-clause-told
returns-clause-told g c =
    tells_some c.in_ok-first.ensures.given c.if-first-eq0.false c.ranges.list.fits
    (rw c.first.ensures.looks.same at c.in_ok-item.ensures.given)
