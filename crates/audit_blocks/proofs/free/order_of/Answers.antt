-- The place of the highest bit, or the highest order; no word is of the lowest.
use Rattle.std.proofs.Common.{◌≡◌, ◌≤◌, ◌<◌, ◌*◌, ◌^◌, ◌∙◌, ℕ, zero, suc, max, min, arith, ap, refl, subst}
use Rattle.sdr_base.specs.LargePool.{order_of}
use Rattle.sdr_large.proofs.ListsLemmas.{order_is_least}
use Rattle.audit_blocks.proofs.free.order_of.Goals as goal

-- no word is of the order of one
or_one : (words : ℕ) → order_of (max words 1) ≡ order_of words
unfolding order_of
or_one zero = refl
or_one (suc words) = let e : max (suc words) 1 ≡ suc words = omega arith in ap order_of e

pub returns-clause-order : goal.returns-clause-order
returns-clause-order c =
    order_is_least (max c.args.words 1) c.ilog2.result c.min.result (subst (λ (n : ℕ). 2 ^ c.ilog2.result ≤ n) c.max.ensures c.ilog2.ensures.power_le)
    (subst (λ (n : ℕ). n < 2 * 2 ^ c.ilog2.result) c.max.ensures c.ilog2.ensures.next_power_gt)
    (c.min.ensures ∙ ap (λ (n : ℕ). min n 20) c.from.ensures)
    ∙ or_one c.args.words
