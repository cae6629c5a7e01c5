use Rattle.std.proofs.Common.{◌∙◌, ap, sym, subst, insert}
use Rattle.sdr_model.proofs.Cases.{in_result}
use Rattle.sdr_model.proofs.HashLemmas.{ordered-insert}
use Rattle.sdr_model.specs.HashChanges.{bucket_start}
use Rattle.sdr_model.specs.HashSteps.{bucket_of}
use Rattle.sdr_model.specs.Hashes.{AreByBucket, Hash}
use Rattle.sdr_model.specs.declared.things.HashEntry.{HashEntry}
use Rattle.sdr_model.proofs.hash.SdrHash.insert.Goals as goal

pub invariant_of-self : goal.invariant_of-self
invariant_of-self c =
    let inside = c.self.inside in
    let entry = c.args.entry in
    let by_bucket = c.self.invariant.by_bucket in
    let hash : Hash = record { key_length = inside.key_length; buckets = inside.buckets; entries = inside.entries } in
    let bucket = c.bucket_of-bucket.ensures.value ∙ ap (bucket_of inside.buckets) c.as_slice.ensures in
    let place = c.first_of-place.ensures.place
    ∙ ap (λ (h : Hash). bucket_start h c.bucket_of-bucket.result) (sym c.self.view_is)
    ∙ ap (bucket_start hash) bucket in
    record {
      some = c.self.invariant.some;
      few = c.self.invariant.few;
      by_bucket = in_result c.insert.result c.insert.ensures.ok c.insert.ensures.err
          (λ is. subst (AreByBucket inside.buckets) (sym (is ∙ ap (λ at. insert inside.entries at entry) place))
          (ordered-insert (λ (e : HashEntry). bucket_of inside.buckets e.key) inside.entries entry by_bucket))
          (λ is. subst (AreByBucket inside.buckets) (sym is) by_bucket);
    }
