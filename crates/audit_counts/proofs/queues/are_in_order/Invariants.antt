-- Each ticket so far may stand before the next.
use Rattle.std.proofs.Common.{◌≡◌, ◌<◌, ◌+◌, ℕ, get_or, true}
use Rattle.audit_counts.specs.Queues.{ticket_in}
use Rattle.sdr_model.specs.Valid.{may_precede}
use Rattle.audit_owners.specs.View.{view_in}
use Rattle.audit_counts.proofs.queues.are_in_order.Given as goal

abbrev pub invariant-loop-place : goal.invariant-loop-place
invariant-loop-place l =
    (k : ℕ) → k + 1 < l.place →
    may_precede (ticket_in (view_in l.heap) (get_or l.tickets k 0)) (ticket_in (view_in l.heap) (get_or l.tickets (k + 1) 0)) ≡ true
