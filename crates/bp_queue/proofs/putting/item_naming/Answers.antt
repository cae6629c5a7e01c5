-- The line is walked from its front.
use Rattle.std.proofs.Common.{arith}
use Rattle.std.proofs.lemmas.Result.{err_from_is_err_and}
use Rattle.sdr_base.proofs.WorksLemmas.{looks_looks, looks_on}
use Rattle.sdr_base.proofs.WritingLemmas.{reaches_less}
use Rattle.bp_queue.proofs.NamingLemmas.{naming_begun, naming_found, naming_item, naming_none, naming_on, naming_only, naming_spot}
use Rattle.bp_queue.proofs.QueueLemmas.{line_list, missed_only}
use Rattle.bp_queue.proofs.RemoveLemmas.{item_reaches}
use Rattle.bp_queue.proofs.putting.item_naming.Goals as goal

pub length-requires-clause-list : goal.length-requires-clause-list
length-requires-clause-list g c = λ kind. record { row = _; keeps = line_list c.requires.queues.keeps }

pub returns-in_err-count-clause-refused : goal.returns-in_err-count-clause-refused
returns-in_err-count-clause-refused g c =
    let p = err_from_is_err_and c.from_residual.result c.from_residual.ensures.1 in
    rw (p.1, p.2) (missed_only (line_list c.requires.queues.keeps) _ c.in_err-count.ensures.refused)

pub first-requires-clause-list : goal.first-requires-clause-list
first-requires-clause-list g c =
    rw c.length.ensures.looks.same (λ kind. record { row = _; keeps = line_list c.requires.queues.keeps })

pub returns-in_err-element-clause-refused : goal.returns-in_err-element-clause-refused
returns-in_err-element-clause-refused g c =
    let p = err_from_is_err_and c.from_residual-in_err-element.result c.from_residual-in_err-element.ensures.1 in
    rw (p.1, p.2)
    (missed_only (line_list c.requires.queues.keeps) _ (rw c.length.ensures.looks.same at c.in_err-element.ensures.refused))

pub loop-i-init : goal.loop-i-init
loop-i-init g c = record {
  walks = naming_begun (rw c.length.ensures.looks.same at c.in_ok-element.ensures.given);
  looks = looks_on c.in_ok-count.ensures.looks c.in_ok-element.ensures.looks;
}

pub datum-requires-clause-element : goal.datum-requires-clause-element
datum-requires-clause-element g c =
    rw c.loop-i.invariant.looks.same
    (λ kind. naming_spot c.loop-i.invariant.walks c.in_ok-count.ensures.given (omega arith) c.requires.queues)

pub returns-in_err-item-clause-refused : goal.returns-in_err-item-clause-refused
returns-in_err-item-clause-refused g c =
    let p = err_from_is_err_and c.from_residual-in_err-item.result c.from_residual-in_err-item.ensures.1 in
    rw (p.1, p.2)
    (naming_only c.loop-i.invariant.walks c.in_ok-count.ensures.given (omega arith) c.requires.queues _
    (rw c.loop-i.invariant.looks.same at c.in_err-item.ensures.refused))

pub word-requires-clause-inside : goal.word-requires-clause-inside
word-requires-clause-inside g c =
    let d = rw c.loop-i.invariant.looks.same at c.in_ok-item.ensures.given in
    rw (c.datum.ensures.looks.same, c.loop-i.invariant.looks.same)
    (reaches_less _ 56 _
    (item_reaches (naming_item c.loop-i.invariant.walks c.in_ok-count.ensures.given (omega arith) d c.requires.queues).stands) (omega arith))

pub returns-then-named-object-clause-found : goal.returns-then-named-object-clause-found
returns-then-named-object-clause-found g c =
    let d = rw c.loop-i.invariant.looks.same at c.in_ok-item.ensures.given in
    let h = rw (c.datum.ensures.looks.same, c.loop-i.invariant.looks.same) at c.in_ok-named.ensures.given in
    naming_found c.loop-i.invariant.walks c.in_ok-count.ensures.given (omega arith) d h c.if-named-object.true

pub returns-then-named-object-clause-looks : goal.returns-then-named-object-clause-looks
returns-then-named-object-clause-looks g c =
    looks_on c.loop-i.invariant.looks (looks_looks c.in_ok-item.ensures.looks c.in_ok-named.ensures.looks)

pub next-requires-clause-element : goal.next-requires-clause-element
next-requires-clause-element g c =
    rw (c.word.ensures.looks.same, c.datum.ensures.looks.same, c.loop-i.invariant.looks.same)
    (λ kind. naming_spot c.loop-i.invariant.walks c.in_ok-count.ensures.given (omega arith) c.requires.queues)

pub loop-i-preserved : goal.loop-i-preserved
loop-i-preserved g c =
    let d = rw c.loop-i.invariant.looks.same at c.in_ok-item.ensures.given in
    let h = rw (c.datum.ensures.looks.same, c.loop-i.invariant.looks.same) at c.in_ok-named.ensures.given in
    record {
      walks =
          naming_on c.loop-i.invariant.walks c.in_ok-count.ensures.given (omega arith) d h c.if-named-object.false
          (rw (c.word.ensures.looks.same, c.datum.ensures.looks.same, c.loop-i.invariant.looks.same) at c.in_ok-element-2.ensures.given);
      looks =
          looks_on c.loop-i.invariant.looks
          (looks_looks c.in_ok-item.ensures.looks (looks_looks c.in_ok-named.ensures.looks c.in_ok-element-2.ensures.looks));
    }

pub returns-clause-found : goal.returns-clause-found
returns-clause-found g c = naming_none c.loop-i.invariant.walks c.in_ok-count.ensures.given (omega arith)
