-- The large blocks before this place are looked at.
use Rattle.std.proofs.Common.{◌≡◌, ◌-◌, length}
use Rattle.audit_blocks.specs.Walked.{LargeWalked}
use Rattle.audit_blocks.proofs.blocks.walk_large.Given as goal

abbrev pub decreases-loop-place : goal.decreases-loop-place
decreases-loop-place l = l.edges.end - l.place

abbrev pub invariant-loop-place : goal.invariant-loop-place
invariant-loop-place l = record { walked : LargeWalked l.heap l.place l.found l.spots; long : length l.spots ≡ length l.fn.spots }
