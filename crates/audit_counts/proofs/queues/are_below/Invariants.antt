-- Each ticket so far has a number below the next one.
use Rattle.std.proofs.Common.{◌<◌, ℕ, get_or}
use Rattle.sdr_base.specs.declared.control.TheConstants.{NEXT_TICKET}
use Rattle.audit_counts.specs.Queues.{ticket_in}
use Rattle.audit_owners.specs.View.{view_in}
use Rattle.audit_counts.proofs.queues.are_below.Given as goal

abbrev pub invariant-loop-addr : goal.invariant-loop-addr
invariant-loop-addr l =
    (k : ℕ) → k < l.addr-index → (ticket_in (view_in l.heap) (get_or l.tickets k 0)).number < (view_in l.heap).roots NEXT_TICKET
