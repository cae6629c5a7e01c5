use Rattle.std.proofs.Common.{◌∙◌, ap, sym, subst, ltb, rules}
use Rattle.std.specs.List.{prefix_len}
use Rattle.std.proofs.lemmas.List.Sorted.{IsPartitionPoint-from_clause, IsPartitionedBy-ltb}
use Rattle.sdr_model.proofs.HashLemmas.{prefix_len-point}
use Rattle.sdr_model.specs.HashChanges.{bucket_start}
use Rattle.sdr_model.specs.Hashes.{Hash, AreByBucket}
use Rattle.sdr_model.specs.HashSteps.{bucket_of}
use Rattle.sdr_model.specs.declared.things.HashEntry.{HashEntry}
use Rattle.sdr_model.proofs.hash.SdrHash.first_of.Goals as goal

pub returns-clause-place : goal.returns-clause-place
returns-clause-place c =
    let buckets = c.self.inside.buckets in
    let entries = c.as_slice-entries.ensures in
    let clause = c.partition_point.ensures in
    let lower = λ (e : HashEntry). ltb (bucket_of buckets e.key) c.args.bucket in
    let by_bucket = subst (AreByBucket buckets) (sym entries) c.self.invariant.by_bucket in
    let parted = IsPartitionedBy-ltb (λ (e : HashEntry). bucket_of buckets e.key) _ c.args.bucket by_bucket in
    let point = IsPartitionPoint-from_clause lower _ _ clause.partitioned parted (λ a r q k. search rules) in
    sym (prefix_len-point lower _ _ clause.bound point)
    ∙ ap (prefix_len lower) entries
    ∙ ap (λ (h : Hash). bucket_start h c.args.bucket) c.self.view_is
