use Rattle.std.proofs.Common.{◌<◌, subst, sym, length}
use Rattle.sdr_model.proofs.HashLemmas.{ordered-remove}
use Rattle.sdr_model.specs.Hashes.{AreByBucket, Hash}
use Rattle.sdr_model.specs.HashSteps.{bucket_of}
use Rattle.sdr_model.specs.declared.things.HashEntry.{HashEntry}
use Rattle.sdr_model.proofs.hash.SdrHash.remove.Goals as goal

pub invariant_of-self : goal.invariant_of-self
invariant_of-self c =
    let buckets = c.self.inside.buckets in
    let inside = subst (λ (h : Hash). c.args.place < length h.entries) (sym c.self.view_is) c.requires.inside in
    record {
      some = c.self.invariant.some;
      few = c.self.invariant.few;
      by_bucket = subst (AreByBucket buckets) (sym c.remove.ensures)
          (ordered-remove (λ (e : HashEntry). bucket_of buckets e.key) _ c.args.place inside c.self.invariant.by_bucket);
    }
