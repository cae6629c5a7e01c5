-- The chain goes up to this link, and the blocks that it reached are marked.
use Rattle.std.proofs.Common.{◌≡◌, List}
use Rattle.audit_owners.specs.Marks.{unmarked}
use Rattle.audit_owners.specs.View.{view_in}
use Rattle.audit_owners.specs.Walking.{HasWalked, IsWalking}
use Rattle.audit_owners.specs.declared.owner.Owner.{Owner}
use Rattle.audit_owners.proofs.chain.check_chain.Given as goal

abbrev pub decreases-loop-step : goal.decreases-loop-step
decreases-loop-step l = unmarked l.marks

abbrev pub invariant-loop-step : goal.invariant-loop-step
invariant-loop-step l = record {
  walking : (owners : List Owner) → HasWalked (view_in l.heap) owners l.fn.marks → IsWalking (view_in l.heap) owners l.step l.marks;
  owner : l.step.owner ≡ l.owner;
}
