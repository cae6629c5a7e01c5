-- Class by class, the highest first.
use Rattle.std.proofs.Common.{sym, ◌∙◌}
use Rattle.std.proofs.lemmas.Result.{IfOk-weaker}
use Rattle.bp_queue.specs.Calls.{Tells, highest_item}
use Rattle.bp_queue.specs.declared.class.Class.TheVariants as classes
use Rattle.bp_queue.proofs.FirstLemmas.{highest_bulk, highest_normal, highest_urgent}
use Rattle.bp_queue.proofs.QueueLemmas.{class_list}
use Rattle.bp_queue.proofs.taking.highest.Goals as goal

pub first_item-requires-clause-list : goal.first_item-requires-clause-list
first_item-requires-clause-list g c = record { row = _; keeps = class_list c.requires.queues.keeps classes.Urgent }

pub first_item-requires-2-clause-list : goal.first_item-requires-2-clause-list
first_item-requires-2-clause-list g c =
    rw c.first_item.ensures.looks.same (record { row = _; keeps = class_list c.requires.queues.keeps classes.Normal })

pub first_item-requires-3-clause-list : goal.first_item-requires-3-clause-list
first_item-requires-3-clause-list g c =
    rw (c.first_item-2.ensures.looks.same, c.first_item.ensures.looks.same)
    (record { row = _; keeps = class_list c.requires.queues.keeps classes.Bulk })

pub returns-then-is_some-clause-told : goal.returns-then-is_some-clause-told
returns-then-is_some-clause-told g c = highest_urgent c.in_ok-urgent.ensures.told (sym c.is_some.ensures ∙ c.if-is_some.true)

pub returns-then-is_some-2-clause-told : goal.returns-then-is_some-2-clause-told
returns-then-is_some-2-clause-told g c =
    highest_normal c.in_ok-urgent.ensures.told (sym c.is_some.ensures ∙ c.if-is_some.false)
    (rw c.first_item.ensures.looks.same at c.in_ok-normal.ensures.told) (sym c.is_some-2.ensures ∙ c.if-is_some-2.true)

pub returns-clause-told : goal.returns-clause-told
returns-clause-told g c =
    IfOk-weaker _ _ (Tells c.args.q.now highest_item (g.O.HasHeap.heap c.args.o.now).blocks)
    (λ item t. highest_bulk c.in_ok-urgent.ensures.told (sym c.is_some.ensures ∙ c.if-is_some.false)
    (rw c.first_item.ensures.looks.same at c.in_ok-normal.ensures.told) (sym c.is_some-2.ensures ∙ c.if-is_some-2.false) t)
    (rw (c.first_item-2.ensures.looks.same, c.first_item.ensures.looks.same) at c.first_item-3.ensures.told)
