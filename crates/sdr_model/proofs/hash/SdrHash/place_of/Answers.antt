use Rattle.std.proofs.Common.{◌≡◌, ◌∙◌, ◌≤◌, ◌<◌, ap, sym, subst, arith, List, get_or, true, ltb, ltb-true, ltb-false, nat_eq}
use Rattle.std.specs.Cmp.Lexicographic.{pointwise}
use Rattle.sdr_model.proofs.Cases.{by_test}
use Rattle.sdr_model.proofs.HashLemmas.{lower_bucket, higher_bucket, position-found, position-none}
use Rattle.sdr_model.specs.Hashes.{AreByBucket, Hash}
use Rattle.sdr_model.specs.HashSteps.{bucket_of, has_key}
use Rattle.sdr_model.specs.declared.things.HashEntry.{HashEntry}
use Rattle.sdr_model.proofs.hash.SdrHash.place_of.Goals as goal

pub loop-place-init : goal.loop-place-init
loop-place-init c k d before =
    let key = c.args.key.now in
    let bucket = c.bucket_of-bucket.ensures.value ∙ ap (λ (h : Hash). bucket_of h.buckets key) c.self.view_is in
    lower_bucket c.args.self.now key c.bucket_of-bucket.result k d bucket
    (subst (λ n. k < n) c.first_of-place.ensures.place before)

pub returns-then-eq-clause-value : goal.returns-then-eq-clause-value
returns-then-eq-clause-value c =
    let key = c.args.key.now in
    let at = c.loop-place.place in
    let entry = c.index-entries-place.result in
    let passes : has_key key (get_or c.args.self.now.entries at entry) ≡ true
    = ap (λ (h : Hash). has_key key (get_or h.entries at entry)) (sym c.self.view_is)
    ∙ ap (λ (es : List HashEntry). has_key key (get_or es at entry)) (sym c.as_slice-entries.ensures)
    ∙ ap (pointwise nat_eq key) (sym c.as_slice.ensures)
    ∙ sym c.eq.ensures ∙ c.if-eq.true in
    sym (position-found (has_key key) c.args.self.now.entries at entry (omega arith)
    (λ k before. c.loop-place.invariant k entry before) passes)

pub returns-clause-value : goal.returns-clause-value
returns-clause-value c =
    let hash = c.args.self.now in
    let key = c.args.key.now in
    let by_bucket = subst (λ (h : Hash). AreByBucket h.buckets h.entries) c.self.view_is c.self.invariant.by_bucket in
    let bucket = c.bucket_of-bucket.ensures.value ∙ ap (λ (h : Hash). bucket_of h.buckets key) c.self.view_is in
    let end = c.first_of-place-end.ensures.place in
    sym (position-none (has_key key) hash.entries (λ k d inside.
    by_test (ltb k c.loop-place.place) (λ before. c.loop-place.invariant k d (ltb-true _ _ before))
    (λ behind. higher_bucket hash key c.bucket_of-bucket.result k d by_bucket bucket
    (subst (λ n. n ≤ k) end (omega (arith, ltb-false _ _ behind))) inside)))
