-- The small blocks before this place are looked at.
use Rattle.std.proofs.Common.{◌≡◌, ◌-◌, length}
use Rattle.audit_blocks.specs.Walked.{SmallWalked}
use Rattle.audit_blocks.proofs.blocks.walk_small.Given as goal

abbrev pub decreases-loop-place : goal.decreases-loop-place
decreases-loop-place l = l.edges.low - l.place

abbrev pub invariant-loop-place : goal.invariant-loop-place
invariant-loop-place l = record { walked : SmallWalked l.heap l.place l.found l.spots; long : length l.spots ≡ length l.fn.spots }
