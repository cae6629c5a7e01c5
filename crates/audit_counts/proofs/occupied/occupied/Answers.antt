use Rattle.std.proofs.Common.{◌+◌, ◌*◌, ◌∙◌, ◌/◌, ℕ, length, sum_by, arith, ap, sym}
use Rattle.sdr_base.specs.declared.kind.Space.{Space}
use Rattle.audit_counts.proofs.ChargesLemmas.{charge_more, charges_over, charges_same}
use Rattle.audit_owners.specs.Places.{places}
use Rattle.audit_counts.specs.Occupied.{charge_at, left_at, occupancy_in}
use Rattle.audit_owners.specs.View.{view_in}
use Rattle.audit_counts.proofs.occupied.occupied.Goals as goal

pub loop-number-preserved : goal.loop-number-preserved
loop-number-preserved c =
    let heap = view_in c.args.heap.now in
    let words : ℕ = length c.args.heap.now / 8 in
    let number = c.in-Some.number in
    let next = c.in-Some.ensures.next in
    let end = next.inside in
    let before : Space → ℕ = λ space. sum_by (charge_at heap words c.args.account space) (places number) in
    record {
      inside = omega (arith, end);
      charged =
          c.in_ok-charges.ensures before
          (c.loop-number.invariant.charged ∙ charges_over c.args.heap.now words c.args.account c.loop-number.from number next.onward next.before)
          ∙ charges_same (λ space. before space + charge_at heap words c.args.account space (8 * number))
          (λ space. sum_by (charge_at heap words c.args.account space) (places (number + 1)))
          (λ space. sym (charge_more heap words c.args.account number space));
    }

pub returns : goal.returns
returns c =
    let heap = view_in c.args.heap.now in
    let words : ℕ = length c.args.heap.now / 8 in
    let before : Space → ℕ = λ space. sum_by (charge_at heap words c.args.account space) (places words) in
    let tickets = c.deref.ensures.value ∙ c.in_ok-tickets.ensures in
    c.with_left.ensures before
    (c.loop-number.invariant.charged
    ∙ charges_over c.args.heap.now words c.args.account c.loop-number.from words c.loop-number.invariant.inside
    (λ word onward less. c.next_of.ensures.none c.in_default.is word onward))
    ∙ charges_same (λ space. before space + sum_by (left_at heap space) c.deref.result.now) (occupancy_in heap words c.args.account) (λ space.
    let t = ap (sum_by (left_at heap space)) tickets in
    omega (arith, t))
