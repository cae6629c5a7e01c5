use Rattle.std.proofs.Common.{◌≡◌, ◌≤◌, take, not}
use Rattle.std.specs.Ordering.{is_gt}
use Rattle.sdr_model.specs.ListSteps.{compare_keys, place_behind, sort_key}
use Rattle.mem_calls.proofs.ordered_calls.ordered_place.Given as goal

abbrev pub invariant-loop-at : goal.invariant-loop-at
invariant-loop-at l = record {
  place : l.place ≡ place_behind (λ other. not (is_gt (compare_keys l.by (sort_key l.world.now other) (sort_key l.world.now l.datum)))) (take l.at l.row.elements);
  within : l.place ≤ l.at;
}
