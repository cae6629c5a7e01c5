-- The two comparisons order items as `Orders` asks.
use Rattle.std.proofs.Common.{refl}
use Rattle.bp_queue.specs.Keys.{ByDeadline, ByOrdinal, deadline_order, rank_order}

pub by_deadline : ByDeadline deadline_order
by_deadline a b long longer = rw (long, longer) refl

pub by_ordinal : ByOrdinal rank_order
by_ordinal a b long longer = refl
