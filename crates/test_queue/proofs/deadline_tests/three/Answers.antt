-- Each call hands on what the next one needs.
use Rattle.std.proofs.Common.{arith}
use Rattle.sdr_base.specs.declared.account.Acct.TheVariants as accts
use Rattle.test_queue.proofs.deadline_tests.three.Goals as goal

pub create-requires-2-clause-queue : goal.create-requires-2-clause-queue
create-requires-2-clause-queue g c =
    let law = c.bundles_keep.ensures in
    let created = law.created _ 27 _ _ c.requires.nothing c.requires.spare c.in_ok-queues.ensures.created in
    law.tickets _ _ _ _ accts.Outbound created

pub create-requires-3-clause-spare : goal.create-requires-3-clause-spare
create-requires-3-clause-spare g c =
    let law = c.bundles_keep.ensures in
    let created = law.created _ 27 _ _ c.requires.nothing c.requires.spare c.in_ok-queues.ensures.created in
    let room = law.spare _ _ _ _ (law.made _ _ 22 _ _ _ _ created c.in_ok-first.ensures.made) in
    omega (arith, room)

pub create-requires-3-clause-queue : goal.create-requires-3-clause-queue
create-requires-3-clause-queue g c =
    let law = c.bundles_keep.ensures in
    let created = law.created _ 27 _ _ c.requires.nothing c.requires.spare c.in_ok-queues.ensures.created in
    law.tickets _ _ _ _ accts.Outbound (law.made _ _ 22 _ _ _ _ created c.in_ok-first.ensures.made)

pub create-requires-4-clause-spare : goal.create-requires-4-clause-spare
create-requires-4-clause-spare g c =
    let law = c.bundles_keep.ensures in
    let created = law.created _ 27 _ _ c.requires.nothing c.requires.spare c.in_ok-queues.ensures.created in
    let one = law.made _ _ 22 _ _ _ _ created c.in_ok-first.ensures.made in
    let room = law.spare _ _ _ _ (law.made _ _ 17 _ _ _ _ one c.in_ok-second.ensures.made) in
    omega (arith, room)

pub create-requires-4-clause-queue : goal.create-requires-4-clause-queue
create-requires-4-clause-queue g c =
    let law = c.bundles_keep.ensures in
    let created = law.created _ 27 _ _ c.requires.nothing c.requires.spare c.in_ok-queues.ensures.created in
    let one = law.made _ _ 22 _ _ _ _ created c.in_ok-first.ensures.made in
    law.tickets _ _ _ _ accts.Outbound (law.made _ _ 17 _ _ _ _ one c.in_ok-second.ensures.made)

pub returns-clause-bundles : goal.returns-clause-bundles
returns-clause-bundles g c =
    let law = c.bundles_keep.ensures in
    let created = law.created _ 27 _ _ c.requires.nothing c.requires.spare c.in_ok-queues.ensures.created in
    let one = law.made _ _ 22 _ _ _ _ created c.in_ok-first.ensures.made in
    let two = law.made _ _ 17 _ _ _ _ one c.in_ok-second.ensures.made in
    law.made _ _ 12 _ _ _ _ two c.in_ok-third.ensures.made
