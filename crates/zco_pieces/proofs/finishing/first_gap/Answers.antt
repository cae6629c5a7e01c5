-- A part ends within the text.
use Rattle.std.proofs.Common.{arith}
use Rattle.zco_join.specs.declared.filled.Filled.{Filled}
use Rattle.zco_pieces.proofs.PlaceLemmas.{order_at}
use Rattle.zco_pieces.proofs.finishing.first_gap.Goals as goal

-- no part
abbrev nothing : Filled
nothing = record { offset = 0; length = 0; object = 0 }

pub overflow_add-end : goal.overflow_add-end
overflow_add-end c =
    let o = order_at c.loop-part.end c.args.total c.loop-part.part-index c.args.parts.now nothing c.loop-part.invariant.order (omega (arith, c.loop-part-test.true)) in
    let e = o.1 in let l = c.ranges.total in omega (arith, e, l)
