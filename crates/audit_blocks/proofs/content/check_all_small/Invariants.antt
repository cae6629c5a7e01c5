-- The contents of the blocks before this place are right.
use Rattle.std.proofs.Common.{◌-◌}
use Rattle.audit_blocks.specs.Content.{SmallFilled}
use Rattle.audit_blocks.proofs.content.check_all_small.Given as goal

abbrev pub decreases-loop-place : goal.decreases-loop-place
decreases-loop-place l = l.edges.low - l.place

abbrev pub invariant-loop-place : goal.invariant-loop-place
invariant-loop-place l = SmallFilled l.heap l.place
