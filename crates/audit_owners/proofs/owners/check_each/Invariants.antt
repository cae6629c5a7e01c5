-- The chains of the owners before this one are right, and their blocks are marked.
use Rattle.std.proofs.Common.{◌++◌, List, take}
use Rattle.audit_owners.specs.View.{view_in}
use Rattle.audit_owners.specs.Walking.{HasWalked}
use Rattle.audit_owners.specs.declared.owner.Owner.{Owner}
use Rattle.audit_owners.proofs.owners.check_each.Given as goal

abbrev pub invariant-loop-i : goal.invariant-loop-i
invariant-loop-i l =
    (earlier : List Owner) → HasWalked (view_in l.heap) earlier l.fn.marks →
    HasWalked (view_in l.heap) (earlier ++ take l.i l.owners) l.marks
