use Rattle.std.proofs.Common.{◌≡◌, ap, sym, subst, Some, get_or}
use Rattle.std.proofs.lemmas.List.Quantifiers.{position-Some}
use Rattle.std.specs.Cmp.Lexicographic.{same_text}
use Rattle.std.specs.List.{position}
use Rattle.sdr_model.proofs.HashLemmas.{ordered-set}
use Rattle.sdr_model.specs.Hashes.{AreByBucket, Hash}
use Rattle.sdr_model.specs.HashSteps.{bucket_of, has_key}
use Rattle.sdr_model.specs.declared.things.HashEntry.{HashEntry}
use Rattle.sdr_model.proofs.hash.SdrHash.set.Goals as goal

pub invariant_of-self : goal.invariant_of-self
invariant_of-self c =
    let buckets = c.self.inside.buckets in
    let entries = c.self.inside.entries in
    let key = c.args.entry.key in
    let place = c.args.place in
    let is_at = λ (h : Hash). position (has_key key) h.entries ≡ Some place in
    let found = λ (d : HashEntry). position-Some (has_key key) entries place d (subst is_at (sym c.self.view_is) c.requires.key) in
    let same = λ (d : HashEntry). ap (bucket_of buckets) (same_text key (get_or entries place d).key (sym (found d).1)) in
    record {
      some = c.self.invariant.some;
      few = c.self.invariant.few;
      by_bucket = subst (AreByBucket buckets) (sym c.set.ensures)
          (ordered-set (λ (e : HashEntry). bucket_of buckets e.key) entries place c.args.entry same
          (found c.args.entry).0 c.self.invariant.by_bucket);
    }
