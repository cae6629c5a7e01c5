-- What was put stays where it is refused again.
use Rattle.std.proofs.Common.{[], ◌∷◌, sym, subst}
use Rattle.bp_queue.specs.Bundles.{SomeBundles}
use Rattle.bp_queue.specs.declared.class.Class.TheVariants as classes
use Rattle.bp_queue.specs.States.{Waiting}
use Rattle.test_queue.proofs.deadline_tests.twice.Goals as goal

pub put-requires-2-clause-queues : goal.put-requires-2-clause-queues
put-requires-2-clause-queues g c =
    let law = c.bundles_keep.ensures in
    let made = c.in_ok-made.made in
    let w : Waiting = record { item = c.in_ok-item.item; class = classes.Bulk; ordinal = 0; deadline = 50; object = made.first } in
    law.queues _ _ _ _ (law.put made.queues (made.third ∷ made.second ∷ []) [] 9 w _ _ c.in_ok-made.ensures.bundles c.in_ok-item.ensures.put)

pub taken_twice-requires-clause-bundles : goal.taken_twice-requires-clause-bundles
taken_twice-requires-clause-bundles g c =
    let law = c.bundles_keep.ensures in
    let made = c.in_ok-made.made in
    let w : Waiting = record { item = c.in_ok-item.item; class = classes.Bulk; ordinal = 0; deadline = 50; object = made.first } in
    let waits = law.put made.queues (made.third ∷ made.second ∷ []) [] 9 w _ _ c.in_ok-made.ensures.bundles c.in_ok-item.ensures.put in
    let again = c.in-Err-Refused-KeyTaken in
    let refused = rw (again.field-0-is, again.field-0-0-is) at again.ensures.refused in
    subst (λ h. SomeBundles h made.queues (made.third ∷ made.second ∷ []) 9) (sym refused.2) waits
