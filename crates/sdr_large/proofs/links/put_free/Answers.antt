-- The links are written, and then the frame in the gap.
use Rattle.std.proofs.Common.{length, refl, arith, ap, ◌∙◌}
use Rattle.std.proofs.lemmas.Result.{on_ok_weaker}
use Rattle.sdr_large.proofs.PutLemmas.{can_put, can_link_back, puts_free}
use Rattle.sdr_large.proofs.links.put_free.Goals as goal

pub order_of-order-requires : goal.order_of-order-requires
order_of-order-requires g c = record { some = (can_put _ _ _ _ c.requires.gap refl).some }

pub read_number-requires : goal.read_number-requires
read_number-requires g c =
    let k = can_put _ _ _ _ c.requires.gap refl in
    record { inside = omega (arith, k.control, c.order_of-order.ensures.most) }

pub link_before-requires-clause-whole : goal.link_before-requires-clause-whole
link_before-requires-clause-whole g c =
    (can_link_back _ _ _ c.args.block.addr _ _ c.requires.gap c.order_of-order.ensures.order c.in_ok-front.ensures.given
    c.in_ok-front.ensures.same).whole

pub link_before-requires-clause-reaches : goal.link_before-requires-clause-reaches
link_before-requires-clause-reaches g c =
    (can_link_back _ _ _ c.args.block.addr _ _ c.requires.gap c.order_of-order.ensures.order c.in_ok-front.ensures.given
    c.in_ok-front.ensures.same).fits

pub link_before-requires-clause-small : goal.link_before-requires-clause-small
link_before-requires-clause-small g c =
    (can_link_back _ _ _ c.args.block.addr _ _ c.requires.gap c.order_of-order.ensures.order c.in_ok-front.ensures.given
    c.in_ok-front.ensures.same).small

pub link_next-requires-clause-control : goal.link_next-requires-clause-control
link_next-requires-clause-control g c =
    (can_put _ _ _ _ c.requires.gap (c.link_before.ensures.size ∙ ap length c.in_ok-front.ensures.same)).control

pub write_frame-requires : goal.write_frame-requires
write_frame-requires g c =
    let k = can_put _ _ _ _ c.requires.gap
    (c.link_next.ensures.size ∙ c.link_before.ensures.size ∙ ap length c.in_ok-front.ensures.same) in
    record { least = k.least; whole = k.whole; words = k.few; small = k.small; inside = k.inside }

pub returns-clause-put : goal.returns-clause-put
returns-clause-put g c =
    on_ok_weaker c.write_frame.result
    (λ frame. puts_free _ _ _ _ _ c.args.block.words c.args.block.addr _ _ c.order_of-order.ensures.order
    c.in_ok-front.ensures.given c.in_ok-front.ensures.same c.in_ok-link_before.ensures.written
    c.in_ok-link_next.ensures.written frame)
    c.write_frame.ensures.frame
