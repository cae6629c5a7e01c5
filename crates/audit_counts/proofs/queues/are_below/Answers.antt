use Rattle.std.proofs.Common.{◌<◌, ℕ, arith, refl, subst, sym}
use Rattle.std.specs.List.{All}
use Rattle.std.proofs.lemmas.Bool.{false≢true}
use Rattle.audit_counts.proofs.QueuesLemmas.{all_of, numbers_at, one_of}
use Rattle.audit_counts.specs.Queues.{ticket_in}
use Rattle.audit_owners.specs.View.{view_in}
use Rattle.audit_counts.proofs.queues.are_below.Goals as goal

pub returns-then-word-next : goal.returns-then-word-next
returns-then-word-next c =
    let heap = view_in c.args.heap.now in
    let P : ℕ → Type 0 = λ n. n < heap.roots 108 in
    let xs = c.args.tickets.now in (
      λ e. absurd (false≢true e),
      λ all.
          let here = one_of (λ addr. (ticket_in heap addr).number) P xs c.loop-addr.addr-index c.loop-addr-test.true (subst (All P) (numbers_at heap xs) all) in
          let number = c.word.ensures in
          let next = c.root-next.ensures in
          let not_below = c.if-word-next.true in
          absurd (omega (arith, here, number, next, not_below)),
    )

pub returns : goal.returns
returns c =
    let heap = view_in c.args.heap.now in
    let P : ℕ → Type 0 = λ n. n < heap.roots 108 in
    let xs = c.args.tickets.now in (
      λ e. subst (All P) (sym (numbers_at heap xs))
          (all_of (λ addr. (ticket_in heap addr).number) P xs c.loop-addr.addr-index (omega arith) c.loop-addr.invariant),
      λ all. refl,
    )
