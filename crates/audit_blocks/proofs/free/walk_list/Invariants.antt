-- The list goes up to this link.
use Rattle.std.proofs.Common.{◌≡◌}
use Rattle.audit_blocks.specs.Listed.{Leaves, ListWalked, free_left}
use Rattle.audit_blocks.proofs.free.walk_list.Given as goal

abbrev pub decreases-loop-link : goal.decreases-loop-link
decreases-loop-link l = free_left l.spots

abbrev pub invariant-loop-link : goal.invariant-loop-link
invariant-loop-link l = record {
  left : Leaves l.heap l.spots (λ told reached. ListWalked l.heap told reached l.link);
  word : l.link.word ≡ l.fn.word;
}
