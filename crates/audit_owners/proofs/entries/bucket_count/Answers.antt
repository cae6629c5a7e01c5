use Rattle.std.proofs.Common.{arith}
use Rattle.audit_owners.proofs.BlockLemmas.{few_bytes}
use Rattle.audit_owners.proofs.entries.bucket_count.Goals as goal

pub returns-clause-few : goal.returns-clause-few
returns-clause-few c =
    let few = few_bytes c.args.heap.now c.args.addr c.requires.region in
    let bytes = c.length_of.ensures in
    let words = c.saturating_sub.ensures in
    omega (arith, few, bytes, words)
