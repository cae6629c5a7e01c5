-- The place of the highest bit, or the highest order.
use Rattle.std.proofs.Common.{min, ap, ◌∙◌, ℕ}
use Rattle.sdr_large.proofs.ListsLemmas.{order_is_least}
use Rattle.sdr_large.proofs.block.order_of.Goals as goal

pub returns-clause-order : goal.returns-clause-order
returns-clause-order c =
    order_is_least c.args.words c.ilog2.result c.min.result c.ilog2.ensures.power_le c.ilog2.ensures.next_power_gt
    (c.min.ensures ∙ ap (λ (n : ℕ). min n 20) c.from.ensures)
