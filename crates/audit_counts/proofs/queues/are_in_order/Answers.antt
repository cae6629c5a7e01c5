use Rattle.std.proofs.Common.{◌≡◌, ◌+◌, ◌-◌, ◌∙◌, ℕ, true, get_or, arith, inl, inr, refl, subst, sym}
use Rattle.std.proofs.lemmas.Bool.{both_ways, cases_lt, false≢true}
use Rattle.audit_counts.proofs.QueuesLemmas.{in_order, neighbours}
use Rattle.audit_counts.specs.Queues.{ticket_in}
use Rattle.sdr_model.specs.Valid.{may_precede}
use Rattle.audit_owners.specs.View.{view_in}
use Rattle.audit_counts.proofs.queues.are_in_order.Goals as goal

pub returns-then-not-may_precede : goal.returns-then-not-may_precede
returns-then-not-may_precede c =
    let heap = view_in c.args.heap.now in
    let xs = c.args.tickets.now in
    let place = c.loop-place.place in
    let least = c.loop-place.auto.place in
    let inside = c.loop-place-test.true in
    let back : place - 1 + 1 ≡ place = omega (arith, least) in (
      λ e. absurd (false≢true e),
      λ all.
          absurd (both_ways (may_precede (ticket_in heap (get_or xs (place - 1) 0)) (ticket_in heap (get_or xs place 0)))
          (sym c.may_precede.ensures ∙ c.if-not-may_precede.true)
          (subst (λ (n : ℕ). may_precede (ticket_in heap (get_or xs (place - 1) 0)) (ticket_in heap (get_or xs n 0)) ≡ true) back
          (neighbours heap xs all (place - 1) (omega (arith, back, inside))))),
    )

pub loop-place-preserved : goal.loop-place-preserved
loop-place-preserved c k less =
    let heap = view_in c.args.heap.now in
    let xs = c.args.tickets.now in
    let place = c.loop-place.place in
    elim (cases_lt (k + 1) place) [
      | inl below ↦ c.loop-place.invariant k below
      | inr above ↦
          let here : place ≡ k + 1 = omega (arith, less, above) in
          let before : place - 1 ≡ k = omega (arith, here) in
          subst (λ (n : ℕ). may_precede (ticket_in heap (get_or xs n 0)) (ticket_in heap (get_or xs (k + 1) 0)) ≡ true) before
          (subst (λ (n : ℕ). may_precede (ticket_in heap (get_or xs (place - 1) 0)) (ticket_in heap (get_or xs n 0)) ≡ true) here
          (sym c.may_precede.ensures ∙ c.if-not-may_precede.false))
    ]

pub returns : goal.returns
returns c = (
  λ e. in_order (view_in c.args.heap.now) c.args.tickets.now (λ k less. c.loop-place.invariant k (omega (arith, less))),
  λ all. refl,
)
