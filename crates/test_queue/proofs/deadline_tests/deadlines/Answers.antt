-- Each call hands on what the next one needs.
use Rattle.std.proofs.Common.{[], sym, ◌∙◌, subst}
use Rattle.bp_queue.specs.Bundles.{SomeBundles}
use Rattle.test_queue.proofs.deadline_tests.deadlines.Goals as goal

pub earliest-requires-clause-queues : goal.earliest-requires-clause-queues
earliest-requires-clause-queues g c =
    let law = c.bundles_keep.ensures in
    law.queues _ _ _ _ (subst (λ h. SomeBundles h c.args.q.now [] 3) (sym c.in_ok-urgent.ensures.looks.same) c.requires.bundles)

pub expire-requires-clause-overdue : goal.expire-requires-clause-overdue
expire-requires-clause-overdue g c =
    let law = c.bundles_keep.ensures in
    let told = subst (λ h. SomeBundles h c.args.q.now [] 3) (sym (c.in_ok-first.ensures.looks.same ∙ c.in_ok-urgent.ensures.looks.same)) c.requires.bundles in
    law.overdue _ _ _ 29 _ told

pub take-requires-clause-kept : goal.take-requires-clause-kept
take-requires-clause-kept g c =
    let law = c.bundles_keep.ensures in
    let told = subst (λ h. SomeBundles h c.args.q.now [] 3) (sym (c.in_ok-first.ensures.looks.same ∙ c.in_ok-urgent.ensures.looks.same)) c.requires.bundles in
    let due = law.overdue _ _ _ 29 _ told in
    (c.in_ok-early.ensures.works due.next due.rows due.object_at due.sources due.rest due.keeps).kept

pub take-requires-clause-spare : goal.take-requires-clause-spare
take-requires-clause-spare g c =
    let law = c.bundles_keep.ensures in
    let told = subst (λ h. SomeBundles h c.args.q.now [] 3) (sym (c.in_ok-first.ensures.looks.same ∙ c.in_ok-urgent.ensures.looks.same)) c.requires.bundles in
    law.spare _ _ _ _ (law.expired _ _ _ 29 _ _ _ told c.in_ok-early.ensures.expired)

pub take-requires-clause-queues : goal.take-requires-clause-queues
take-requires-clause-queues g c =
    let law = c.bundles_keep.ensures in
    let told = subst (λ h. SomeBundles h c.args.q.now [] 3) (sym (c.in_ok-first.ensures.looks.same ∙ c.in_ok-urgent.ensures.looks.same)) c.requires.bundles in
    law.queues _ _ _ _ (law.expired _ _ _ 29 _ _ _ told c.in_ok-early.ensures.expired)

pub expire-requires-2-clause-overdue : goal.expire-requires-2-clause-overdue
expire-requires-2-clause-overdue g c =
    let law = c.bundles_keep.ensures in
    let told = subst (λ h. SomeBundles h c.args.q.now [] 3) (sym (c.in_ok-first.ensures.looks.same ∙ c.in_ok-urgent.ensures.looks.same)) c.requires.bundles in
    let early = law.expired _ _ _ 29 _ _ _ told c.in_ok-early.ensures.expired in
    law.overdue _ _ _ 50 _ (law.taken _ _ 0 _ _ _ early c.in_ok-taken.ensures.taken)

pub earliest-requires-2-clause-kept : goal.earliest-requires-2-clause-kept
earliest-requires-2-clause-kept g c =
    let law = c.bundles_keep.ensures in
    let told = subst (λ h. SomeBundles h c.args.q.now [] 3) (sym (c.in_ok-first.ensures.looks.same ∙ c.in_ok-urgent.ensures.looks.same)) c.requires.bundles in
    let early = law.expired _ _ _ 29 _ _ _ told c.in_ok-early.ensures.expired in
    let due = law.overdue _ _ _ 50 _ (law.taken _ _ 0 _ _ _ early c.in_ok-taken.ensures.taken) in
    (c.in_ok-late.ensures.works due.next due.rows due.object_at due.sources due.rest due.keeps).kept

pub earliest-requires-2-clause-queues : goal.earliest-requires-2-clause-queues
earliest-requires-2-clause-queues g c =
    let law = c.bundles_keep.ensures in
    let told = subst (λ h. SomeBundles h c.args.q.now [] 3) (sym (c.in_ok-first.ensures.looks.same ∙ c.in_ok-urgent.ensures.looks.same)) c.requires.bundles in
    let early = law.expired _ _ _ 29 _ _ _ told c.in_ok-early.ensures.expired in
    let taken = law.taken _ _ 0 _ _ _ early c.in_ok-taken.ensures.taken in
    law.queues _ _ _ _ (law.expired _ _ _ 50 _ _ _ taken c.in_ok-late.ensures.expired)
