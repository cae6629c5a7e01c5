use Rattle.std.proofs.Common.{arith}
use Rattle.audit_counts.proofs.ChargesLemmas.{few_text}
use Rattle.audit_counts.proofs.occupied.capsule_bytes.Goals as goal

pub overflow_add-result : goal.overflow_add-result
overflow_add-result c =
    let few = few_text c.args.heap.now c.args.addr c.length_of.result c.saturating_sub-text.result c.requires.region c.length_of.ensures c.saturating_sub-text.ensures in
    omega (arith, few)

pub overflow_mul-result : goal.overflow_mul-result
overflow_mul-result c =
    let few = few_text c.args.heap.now c.args.addr c.length_of.result c.saturating_sub-text.result c.requires.region c.length_of.ensures c.saturating_sub-text.ensures in
    omega (arith, few)
