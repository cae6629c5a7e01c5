use Rattle.std.proofs.Common.{◌+◌, ℕ, subst}
use Rattle.audit_blocks.proofs.StruckLemmas.{left_ends}
use Rattle.audit_blocks.specs.Listed.{Leaves, ListsWalked}
use Rattle.audit_blocks.proofs.free.walk_list.Goals as goal

pub returns-clause-left : goal.returns-clause-left
returns-clause-left c =
    let bytes = c.args.heap.now in
    subst (λ (w : ℕ). Leaves bytes c.loop-link.spots (λ told reached. ListsWalked bytes told reached (w + 1))) c.loop-link.invariant.word
    (left_ends c.loop-link.invariant.left c.loop-link-test.false)
