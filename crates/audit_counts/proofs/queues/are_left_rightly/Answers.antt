use Rattle.std.proofs.Common.{◌≡◌, ◌∙◌, true, get_or, arith, refl, sym}
use Rattle.std.proofs.lemmas.Bool.{both_ways, false≢true}
use Rattle.audit_counts.proofs.QueuesLemmas.{all_of, one_more, one_of}
use Rattle.audit_counts.specs.Queues.{is_left_rightly, ticket_in}
use Rattle.sdr_model.specs.declared.accounts.Ticket.{Ticket}
use Rattle.audit_owners.specs.View.{view_in}
use Rattle.audit_counts.proofs.queues.are_left_rightly.Goals as goal

-- what is left of a ticket is right
abbrev Right : Ticket → Type 0
Right t = is_left_rightly t ≡ true

pub returns-then-not-is_left_rightly : goal.returns-then-not-is_left_rightly
returns-then-not-is_left_rightly c =
    let heap = view_in c.args.heap.now in (
      λ e. absurd (false≢true e),
      λ all. absurd (both_ways (is_left_rightly (ticket_in heap (get_or c.args.tickets.now c.loop-addr.addr-index 0)))
          (sym c.is_left_rightly.ensures ∙ c.if-not-is_left_rightly.true)
          (one_of (ticket_in heap) Right c.args.tickets.now c.loop-addr.addr-index c.loop-addr-test.true all)),
    )

pub loop-addr-preserved : goal.loop-addr-preserved
loop-addr-preserved c =
    one_more (λ k. Right (ticket_in (view_in c.args.heap.now) (get_or c.args.tickets.now k 0))) c.loop-addr.addr-index c.loop-addr.invariant
    (sym c.is_left_rightly.ensures ∙ c.if-not-is_left_rightly.false)

pub returns : goal.returns
returns c = (
  λ e. all_of (ticket_in (view_in c.args.heap.now)) Right c.args.tickets.now c.loop-addr.addr-index (omega arith) c.loop-addr.invariant,
  λ all. refl,
)
