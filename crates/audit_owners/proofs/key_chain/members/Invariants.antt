-- The blocks so far, and those to which the link leads, are those of the chain.
use Rattle.std.proofs.Common.{◌≡◌, ◌/◌, ◌++◌, length}
use Rattle.sdr_base.specs.declared.line.TheConstants.{WORD}
use Rattle.audit_owners.specs.Members.{followed, members}
use Rattle.audit_owners.specs.View.{view_in}
use Rattle.audit_owners.proofs.key_chain.members.Given as goal

abbrev pub invariant-loop-link : goal.invariant-loop-link
invariant-loop-link l =
    l.addrs.items ++ followed (view_in l.heap) l.owner l.most l.link
    ≡ members (view_in l.heap) (length l.heap / WORD) l.owner

abbrev pub decreases-loop-link : goal.decreases-loop-link
decreases-loop-link l = l.most
