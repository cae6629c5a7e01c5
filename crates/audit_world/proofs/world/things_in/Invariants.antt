-- The things of the blocks so far are in the map.
use Rattle.std.proofs.Common.{◌≡◌, ◌≤◌, ◌-◌, ◌/◌, length}
use Rattle.std.specs.FinMap as finite
use Rattle.std.specs.Ordering.{nat_cmp}
use Rattle.audit_owners.specs.View.{view_in}
use Rattle.audit_world.proofs.RowLemmas.{row}
use Rattle.audit_world.specs.Told.{thing_told}
use Rattle.audit_world.proofs.world.things_in.Given as goal

abbrev pub invariant-loop-number : goal.invariant-loop-number
invariant-loop-number l = record {
  inside : l.from ≤ length l.heap / 8;
  told :
      finite.from_entries {R = nat_cmp} l.things.entries
      ≡ finite.from_entries (row (thing_told (view_in l.heap) (length l.heap / 8)) 0 l.from);
}

abbrev pub decreases-loop-number : goal.decreases-loop-number
decreases-loop-number l = length l.heap - l.from
