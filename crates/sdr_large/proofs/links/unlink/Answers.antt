-- The block's links are read and written where they stand.
use Rattle.std.proofs.Common.{length, arith, ap}
use Rattle.std.proofs.lemmas.Result.{on_ok_weaker}
use Rattle.sdr_large.proofs.StepsLemmas.{can_unlink, can_link, unlinks_read}
use Rattle.sdr_large.proofs.links.unlink.Goals as goal

pub overflow_sub-block : goal.overflow_sub-block
overflow_sub-block g c = omega (arith, (can_unlink _ _ _ c.requires.free).least)

pub read_number-requires : goal.read_number-requires
read_number-requires g c =
    let k = can_unlink _ _ _ c.requires.free in record { inside = omega (arith, k.least, k.inside) }

pub overflow_mul-block : goal.overflow_mul-block
overflow_mul-block g c = let k = can_unlink _ _ _ c.requires.free in omega (arith, k.inside, k.short)

pub overflow_add-block : goal.overflow_add-block
overflow_add-block g c = let k = can_unlink _ _ _ c.requires.free in omega (arith, k.inside, k.short)

pub read_number-requires-2 : goal.read_number-requires-2
read_number-requires-2 g c =
    let k = can_unlink _ _ _ c.requires.free in
    record { inside = omega (arith, k.inside, ap length c.in_ok-next.ensures.same) }

pub link_before-requires-clause-whole : goal.link_before-requires-clause-whole
link_before-requires-clause-whole g c =
    (can_link _ _ _ _ _ _ _ c.requires.free c.in_ok-next.ensures.given c.in_ok-next.ensures.same
    c.in_ok-before.ensures.given c.in_ok-before.ensures.same).next_whole

pub link_before-requires-clause-reaches : goal.link_before-requires-clause-reaches
link_before-requires-clause-reaches g c =
    (can_link _ _ _ _ _ _ _ c.requires.free c.in_ok-next.ensures.given c.in_ok-next.ensures.same
    c.in_ok-before.ensures.given c.in_ok-before.ensures.same).next_fits

pub link_before-requires-clause-small : goal.link_before-requires-clause-small
link_before-requires-clause-small g c =
    (can_link _ _ _ _ _ _ _ c.requires.free c.in_ok-next.ensures.given c.in_ok-next.ensures.same
    c.in_ok-before.ensures.given c.in_ok-before.ensures.same).next_small

pub order_of-requires : goal.order_of-requires
order_of-requires g c = record { some = (can_unlink _ _ _ c.requires.free).some }

pub link_next-requires-clause-whole : goal.link_next-requires-clause-whole
link_next-requires-clause-whole g c =
    (can_link _ _ _ _ _ _ _ c.requires.free c.in_ok-next.ensures.given c.in_ok-next.ensures.same
    c.in_ok-before.ensures.given c.in_ok-before.ensures.same).before_whole

pub link_next-requires-clause-inside : goal.link_next-requires-clause-inside
link_next-requires-clause-inside g c =
    (can_link _ _ _ _ _ _ _ c.requires.free c.in_ok-next.ensures.given c.in_ok-next.ensures.same
    c.in_ok-before.ensures.given c.in_ok-before.ensures.same).before_least

pub link_next-requires-clause-within : goal.link_next-requires-clause-within
link_next-requires-clause-within g c =
    let k = can_link _ _ _ _ _ _ _ c.requires.free c.in_ok-next.ensures.given c.in_ok-next.ensures.same
    c.in_ok-before.ensures.given c.in_ok-before.ensures.same in
    omega (arith, k.before_in, c.link_before.ensures.size)

pub link_next-requires-clause-control : goal.link_next-requires-clause-control
link_next-requires-clause-control g c =
    let k = can_link _ _ _ _ _ _ _ c.requires.free c.in_ok-next.ensures.given c.in_ok-next.ensures.same
    c.in_ok-before.ensures.given c.in_ok-before.ensures.same in
    omega (arith, k.control, c.link_before.ensures.size)

pub returns-clause-unlinked : goal.returns-clause-unlinked
returns-clause-unlinked g c =
    on_ok_weaker c.link_next.result
    (λ is. unlinks_read _ _ _ _ _ c.args.block.words c.args.block.addr _ _ _ c.in_ok-next.ensures.given
    c.in_ok-next.ensures.same c.in_ok-before.ensures.given c.in_ok-before.ensures.same
    c.in_ok-link_before.ensures.written c.order_of.ensures.order is)
    c.link_next.ensures.written
