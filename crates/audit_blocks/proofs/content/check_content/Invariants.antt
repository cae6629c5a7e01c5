-- The contents of the blocks before this place are right.
use Rattle.std.proofs.Common.{◌-◌}
use Rattle.audit_blocks.specs.Content.{LargeFilled}
use Rattle.audit_blocks.proofs.content.check_content.Given as goal

abbrev pub decreases-loop-place : goal.decreases-loop-place
decreases-loop-place l = l.edges.end - l.place

abbrev pub invariant-loop-place : goal.invariant-loop-place
invariant-loop-place l = LargeFilled l.heap l.place
