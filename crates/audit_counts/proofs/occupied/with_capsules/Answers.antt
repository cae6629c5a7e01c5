use Rattle.std.proofs.Common.{◌+◌, ◌∙◌, ℕ, sum_by, take}
use Rattle.sdr_base.specs.declared.kind.Space.{Space}
use Rattle.audit_counts.proofs.ChargesLemmas.{capsule_more, charges_same}
use Rattle.audit_counts.specs.Occupied.{capsule_charge_at}
use Rattle.audit_owners.specs.View.{view_in}
use Rattle.audit_counts.proofs.occupied.with_capsules.Goals as goal

pub loop-addr-preserved : goal.loop-addr-preserved
loop-addr-preserved c of is =
    let heap = view_in c.args.heap.now in
    let i = c.loop-addr.addr-index in
    let before : Space → ℕ = λ space. of space + sum_by (capsule_charge_at heap space) (take i c.args.capsules.now) in
    c.with-charges.ensures before (c.loop-addr.invariant of is)
    ∙ charges_same _ _ (capsule_more heap of c.args.capsules.now i _ c.loop-addr-test.true c.capsule_bytes.result c.capsule_bytes.ensures)
