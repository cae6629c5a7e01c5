use Rattle.std.proofs.Common.{◌∙◌, ◌/◌, ℕ, length}
use Rattle.std.proofs.lemmas.Bool.{both_ways, false≢true}
use Rattle.audit_counts.proofs.QueuesLemmas.{lawful, lawful_apart, lawful_queue, numbers_are}
use Rattle.audit_owners.specs.View.{view_in}
use Rattle.audit_counts.proofs.queues.is_lawful.Goals as goal

pub returns-then-not-branch-clause-lawful : goal.returns-then-not-branch-clause-lawful
returns-then-not-branch-clause-lawful c =
    let heap = view_in c.args.heap.now in
    let words : ℕ = length c.args.heap.now / 8 in
    let numbers = c.deref-2.result.now in
    let tickets = c.deref.result.now in
    let tickets_are = c.deref.ensures.value ∙ c.in_ok-tickets.ensures in
    let numbers_is =
    numbers_are heap words c.args.account numbers tickets _ c.requires.before tickets_are (c.deref-2.ensures.value ∙ c.in_ok-push_numbers.ensures) in (
      λ e. absurd (false≢true e),
      λ law.
          absurd (both_ways c.in_ok-are_distinct.field-0 c.if-not-branch.true
          (c.in_ok-are_distinct.ensures.1 (lawful_apart heap words c.args.account numbers tickets numbers_is law))),
    )

pub returns-clause-lawful : goal.returns-clause-lawful
returns-clause-lawful c =
    let heap = view_in c.args.heap.now in
    let words : ℕ = length c.args.heap.now / 8 in
    let numbers = c.deref-2.result.now in
    let tickets = c.deref-3.result.now in
    let tickets_are = c.deref-3.ensures.value ∙ c.in_ok-tickets.ensures in
    let numbers_is =
    numbers_are heap words c.args.account numbers c.deref.result.now _ c.requires.before (c.deref.ensures.value ∙ c.in_ok-tickets.ensures)
    (c.deref-2.ensures.value ∙ c.in_ok-push_numbers.ensures) in (
      λ yes. lawful heap words c.args.account numbers tickets numbers_is tickets_are (c.in_ok-are_distinct.ensures.0 c.if-not-branch.false)
          (c.is_queue.ensures.0 yes),
      λ law. c.is_queue.ensures.1 (lawful_queue heap words c.args.account numbers tickets tickets_are law),
    )
