-- The numbers of the tickets so far are behind the others.
use Rattle.std.proofs.Common.{◌≡◌, ◌++◌, map, take}
use Rattle.audit_counts.specs.Queues.{ticket_numbers, ticket_in}
use Rattle.audit_owners.specs.View.{view_in}
use Rattle.audit_counts.proofs.queues.push_numbers.Given as goal

abbrev pub invariant-loop-addr : goal.invariant-loop-addr
invariant-loop-addr l =
    l.numbers.items ≡ l.fn.numbers.items
    ++ ticket_numbers (map (ticket_in (view_in l.heap)) (take l.addr-index l.tickets))
