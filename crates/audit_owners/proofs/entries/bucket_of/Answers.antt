use Rattle.std.proofs.Common.{◌∙◌, ◌+◌, ◌%◌, take, sum, ap, ap₂, sym, arith}
use Rattle.std.proofs.Math.Nat.{mod-add-mod}
use Rattle.std.proofs.lemmas.List.Sums.{sum_by_more}
use Rattle.std.proofs.lemmas.Nat.{mod_below}
use Rattle.audit_owners.proofs.entries.bucket_of.Goals as goal

pub loop-byte-preserved : goal.loop-byte-preserved
loop-byte-preserved c =
    let at = c.loop-byte.byte-index in
    let key = c.args.key.now in
    let some = c.requires.some in
    record {
      summed =
          ap₂ (λ bucket byte. (bucket + byte) % c.args.buckets) c.loop-byte.invariant.summed c.from.ensures
          ∙ mod-add-mod (sum (take at key)) c.args.buckets _
          ∙ ap (λ n. n % c.args.buckets) (sym (sum_by_more (λ x. x) key at 0 c.loop-byte-test.true));
      below = mod_below _ c.args.buckets (omega (arith, some));
    }
