-- Each put hands on what the next one needs.
use Rattle.std.proofs.Common.{[], ◌∷◌}
use Rattle.bp_queue.specs.declared.class.Class.TheVariants as classes
use Rattle.bp_queue.specs.States.{Waiting}
use Rattle.test_queue.proofs.deadline_tests.put_three.Goals as goal

pub put-requires-2-clause-queues : goal.put-requires-2-clause-queues
put-requires-2-clause-queues g c =
    let law = c.bundles_keep.ensures in
    let made = c.args.made.now in
    let w : Waiting = record { item = c.in_ok-first.first; class = classes.Bulk; ordinal = 0; deadline = 50; object = made.first } in
    law.queues _ _ _ _ (law.put made.queues (made.third ∷ made.second ∷ []) [] 9 w _ _ c.requires.bundles c.in_ok-first.ensures.put)

pub put-requires-3-clause-queues : goal.put-requires-3-clause-queues
put-requires-3-clause-queues g c =
    let law = c.bundles_keep.ensures in
    let made = c.args.made.now in
    let w : Waiting = record { item = c.in_ok-first.first; class = classes.Bulk; ordinal = 0; deadline = 50; object = made.first } in
    let v : Waiting = record { item = c.in_ok-second.second; class = classes.Urgent; ordinal = 1; deadline = 30; object = made.second } in
    let one = law.put made.queues (made.third ∷ made.second ∷ []) [] 9 w _ _ c.requires.bundles c.in_ok-first.ensures.put in
    law.queues _ _ _ _ (law.put made.queues (made.third ∷ []) [] 6 v _ _ one c.in_ok-second.ensures.put)

pub returns-clause-bundles : goal.returns-clause-bundles
returns-clause-bundles g c =
    let law = c.bundles_keep.ensures in
    let made = c.args.made.now in
    let w : Waiting = record { item = c.in_ok-first.first; class = classes.Bulk; ordinal = 0; deadline = 50; object = made.first } in
    let v : Waiting = record { item = c.in_ok-second.second; class = classes.Urgent; ordinal = 1; deadline = 30; object = made.second } in
    let u : Waiting = record { item = c.in_ok-third.third; class = classes.Urgent; ordinal = 9; deadline = 70; object = made.third } in
    let one = law.put made.queues (made.third ∷ made.second ∷ []) [] 9 w _ _ c.requires.bundles c.in_ok-first.ensures.put in
    let two = law.put made.queues (made.third ∷ []) [] 6 v _ _ one c.in_ok-second.ensures.put in
    law.put made.queues [] [] 3 u _ _ two c.in_ok-third.ensures.put
