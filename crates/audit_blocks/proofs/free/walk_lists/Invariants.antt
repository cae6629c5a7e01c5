-- The lists before this control word are walked over.
use Rattle.audit_blocks.specs.Listed.{Leaves, ListsWalked}
use Rattle.audit_blocks.proofs.free.walk_lists.Given as goal

abbrev pub invariant-loop-word : goal.invariant-loop-word
invariant-loop-word l = Leaves l.heap l.spots (λ told reached. ListsWalked l.heap told reached l.word)
