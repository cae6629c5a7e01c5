use Rattle.std.proofs.Common.{◌∙◌, sym}
use Rattle.audit_counts.proofs.QueuesLemmas.{front_here, front_later}
use Rattle.audit_owners.specs.View.{view_in}
use Rattle.audit_counts.proofs.queues.front_waiting.Goals as goal

pub returns-then-not-is_granted : goal.returns-then-not-is_granted
returns-then-not-is_granted c =
    sym (front_here (view_in c.args.heap.now) c.args.tickets.now c.loop-addr.addr-index _ c.loop-addr-test.true c.loop-addr.invariant
    (sym c.is_granted.ensures ∙ c.if-not-is_granted.true))

pub loop-addr-preserved : goal.loop-addr-preserved
loop-addr-preserved c =
    front_later (view_in c.args.heap.now) c.args.tickets.now c.loop-addr.addr-index _ c.loop-addr-test.true c.loop-addr.invariant
    (sym c.is_granted.ensures ∙ c.if-not-is_granted.false)
