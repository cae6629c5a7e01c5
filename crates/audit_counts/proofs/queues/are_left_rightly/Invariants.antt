-- What is left of each ticket so far is right.
use Rattle.std.proofs.Common.{◌≡◌, ◌<◌, ℕ, get_or, true}
use Rattle.audit_counts.specs.Queues.{is_left_rightly, ticket_in}
use Rattle.audit_owners.specs.View.{view_in}
use Rattle.audit_counts.proofs.queues.are_left_rightly.Given as goal

abbrev pub invariant-loop-addr : goal.invariant-loop-addr
invariant-loop-addr l =
    (k : ℕ) → k < l.addr-index → is_left_rightly (ticket_in (view_in l.heap) (get_or l.tickets k 0)) ≡ true
