-- The chains of the blocks before this word are right, and their blocks are marked.
use Rattle.std.proofs.Common.{◌-◌, ◌≤◌, ◌/◌, length}
use Rattle.audit_owners.specs.Owners.{owners_of}
use Rattle.audit_owners.specs.View.{view_in}
use Rattle.audit_owners.specs.Walking.{HasWalked}
use Rattle.audit_owners.proofs.owners.check_chains.Given as goal

abbrev pub invariant-loop-number : goal.invariant-loop-number
invariant-loop-number l = record {
  inside : l.from ≤ length l.heap / 8;
  walked : HasWalked (view_in l.heap) (owners_of (view_in l.heap) l.from) l.marks;
}

abbrev pub decreases-loop-number : goal.decreases-loop-number
decreases-loop-number l = length l.heap - l.from
