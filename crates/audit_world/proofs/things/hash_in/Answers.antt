use Rattle.std.proofs.Common.{◌/◌, List, ℕ, length, subst, sym}
use Rattle.sdr_model.specs.Hashes.{AreByBucket}
use Rattle.sdr_model.specs.declared.things.HashEntry.{HashEntry}
use Rattle.audit_owners.specs.View.{view_in}
use Rattle.audit_world.proofs.PutLemmas.{by_bucket}
use Rattle.audit_world.specs.Told.{entries_up_to, hash_told}
use Rattle.audit_world.proofs.things.hash_in.Goals as goal

pub of-requires-clause-by_bucket : goal.of-requires-clause-by_bucket
of-requires-clause-by_bucket c =
    let heap = view_in c.args.heap.now in
    let words = length c.args.heap.now / 8 in
    subst (λ (es : List HashEntry). AreByBucket c.word-buckets.result es) (sym c.in_ok-entries.ensures)
    (subst (λ (n : ℕ). AreByBucket n (entries_up_to heap words c.args.addr n)) (sym c.word-buckets.ensures)
    (by_bucket (hash_told heap words c.args.addr) c.requires.valid))
