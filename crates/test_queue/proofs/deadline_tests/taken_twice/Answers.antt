-- The second call has what the first one leaves.
use Rattle.std.proofs.Common.{arith}
use Rattle.test_queue.proofs.deadline_tests.taken_twice.Goals as goal

pub take-requires-clause-spare : goal.take-requires-clause-spare
take-requires-clause-spare g c = let room = c.bundles_keep.ensures.spare _ _ _ _ c.requires.bundles in omega (arith, room)

pub take-requires-2-clause-spare : goal.take-requires-2-clause-spare
take-requires-2-clause-spare g c =
    let law = c.bundles_keep.ensures in
    let room = law.spare _ _ _ _ (law.taken _ _ 6 _ _ _ c.requires.bundles c.in_ok-taken.ensures.taken) in
    omega (arith, room)

pub take-requires-2-clause-queues : goal.take-requires-2-clause-queues
take-requires-2-clause-queues g c =
    let law = c.bundles_keep.ensures in
    law.queues _ _ _ _ (law.taken _ _ 6 _ _ _ c.requires.bundles c.in_ok-taken.ensures.taken)
