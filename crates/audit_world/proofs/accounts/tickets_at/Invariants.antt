use Rattle.std.proofs.Common.{◌≡◌, map, take}
use Rattle.audit_counts.specs.Queues.{ticket_in}
use Rattle.audit_owners.specs.View.{view_in}
use Rattle.audit_world.proofs.accounts.tickets_at.Given as goal

abbrev pub invariant-loop-addr : goal.invariant-loop-addr
invariant-loop-addr l = l.row ≡ map (ticket_in (view_in l.heap)) (take l.addr-index l.addrs)
