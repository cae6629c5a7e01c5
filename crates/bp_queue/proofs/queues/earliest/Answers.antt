-- The deadline of the first item of the line.
use Rattle.std.proofs.Common.{arith}
use Rattle.sdr_base.proofs.WritingLemmas.{reaches_less}
use Rattle.bp_queue.proofs.FirstLemmas.{line_item, tells_deadline, tells_no_deadline}
use Rattle.bp_queue.proofs.QueueLemmas.{line_list}
use Rattle.bp_queue.proofs.RemoveLemmas.{item_reaches}
use Rattle.bp_queue.proofs.queues.earliest.Goals as goal

pub first_item-requires-clause-list : goal.first_item-requires-clause-list
first_item-requires-clause-list g c = record { row = _; keeps = line_list c.requires.queues.keeps }

pub word-requires-clause-inside : goal.word-requires-clause-inside
word-requires-clause-inside g c =
    let t = rw c.in-Some.is at c.in_ok-first_item.ensures.told in
    rw c.first_item.ensures.looks.same
    (reaches_less _ 56 _ (item_reaches (line_item t c.requires.queues).stands) (omega arith))

pub returns-in-None-clause-told : goal.returns-in-None-clause-told
returns-in-None-clause-told g c = tells_no_deadline (rw c.in-None.is at c.in_ok-first_item.ensures.told)

pub returns-in_ok-deadline-in-Some-clause-told : goal.returns-in_ok-deadline-in-Some-clause-told
returns-in_ok-deadline-in-Some-clause-told g c =
    let t = rw c.in-Some.is at c.in_ok-first_item.ensures.told in
    tells_deadline t (rw c.first_item.ensures.looks.same at c.in_ok-deadline-in-Some.ensures.given)
