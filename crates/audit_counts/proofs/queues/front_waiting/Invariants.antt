-- No ticket so far waits.
use Rattle.std.proofs.Common.{◌≡◌, map, take}
use Rattle.std.specs.Prelude.{None}
use Rattle.audit_counts.specs.Queues.{ticket_in}
use Rattle.sdr_model.specs.Queue.{front_waiting}
use Rattle.audit_owners.specs.View.{view_in}
use Rattle.audit_counts.proofs.queues.front_waiting.Given as goal

abbrev pub invariant-loop-addr : goal.invariant-loop-addr
invariant-loop-addr l = front_waiting (map (ticket_in (view_in l.heap)) (take l.addr-index l.tickets)) ≡ None
