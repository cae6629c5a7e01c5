use Rattle.std.proofs.Common.{◌∙◌, ◌+◌, ◌%◌, take, sum, ap, ap₂, sym}
use Rattle.std.proofs.Math.Nat.{mod-add-mod}
use Rattle.std.proofs.lemmas.List.Sums.{sum_by_more}
use Rattle.sdr_model.proofs.hash.bucket_of.Goals as goal

pub loop-byte-preserved : goal.loop-byte-preserved
loop-byte-preserved c =
    let at = c.loop-byte.byte-index in
    let key = c.args.key.now in
    ap₂ (λ bucket byte. (bucket + byte) % c.args.buckets) c.loop-byte.invariant c.from.ensures
    ∙ mod-add-mod (sum (take at key)) c.args.buckets _
    ∙ ap (λ n. n % c.args.buckets) (sym (sum_by_more (λ x. x) key at 0 c.loop-byte-test.true))
