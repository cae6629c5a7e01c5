use Rattle.std.proofs.Common.{◌+◌, ◌≤◌, ◌<◌, ℕ, Bool, true, false, List, ap, sym, ◌∙◌, subst, cond, not, length, slice_index_or, arith}
use Rattle.std.specs.Ordering.{is_gt}
use Rattle.sdr_model.specs.ListSteps.{compare_keys, sort_key}
use Rattle.sdr_model.specs.declared.things.Element.{Element}
use Rattle.mem_calls.proofs.OrderLemmas.{place_behind-step}
use Rattle.mem_calls.proofs.ordered_calls.ordered_place.Goals as goal

within : (b : Bool) (at place : ℕ) → place ≤ at → cond b (at + 1) place ≤ at + 1
within true at place le = omega arith
within false at place le = omega (arith, le)

pub loop-at-preserved : goal.loop-at-preserved
loop-at-preserved c = record {
  place = place_behind-step
      (λ other. not (is_gt (compare_keys c.args.by (sort_key c.args.world.now.now other) (sort_key c.args.world.now.now c.args.datum))))
      c.args.row.now.elements c.loop-at.at _ (not (is_gt c.compare_data-order.result)) c.loop-at.place c.place_behind-place.result
      (subst (λ es. c.loop-at.at < length es) c.as_slice-element-items.ensures c.loop-at-test.true)
      (ap (λ o. not (is_gt o)) c.compare_data-order.ensures
      ∙ ap (λ (es : List Element). not (is_gt (compare_keys c.args.by (sort_key c.args.world.now.now (slice_index_or {A = Element} es c.loop-at.at _).datum) (sort_key c.args.world.now.now c.args.datum))))
      c.as_slice-element-items.ensures)
      c.loop-at.invariant.place c.place_behind-place.ensures;
  within = subst (λ n. n ≤ c.loop-at.at + 1) (sym c.place_behind-place.ensures)
      (within (not (is_gt c.compare_data-order.result)) c.loop-at.at c.loop-at.place c.loop-at.invariant.within);
}
