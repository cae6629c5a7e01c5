use Rattle.std.proofs.Common.{arith}
use Rattle.audit_owners.proofs.BlockLemmas.{few_bytes}
use Rattle.audit_owners.proofs.entries.bucket_length.Goals as goal

pub overflow_add-owner : goal.overflow_add-owner
overflow_add-owner c =
    let few = few_bytes c.args.heap.now c.args.addr c.requires.region in
    let less = c.requires.some in
    omega (arith, few, less)
