-- The chains of the buckets before this one are right, and their blocks are marked.
use Rattle.std.proofs.Common.{◌+◌, ◌++◌, List}
use Rattle.std.specs.Prelude.{map}
use Rattle.std.specs.List.{range_with_len}
use Rattle.sdr_base.specs.declared.layout.hash.TheConstants.{WORDS}
use Rattle.audit_owners.specs.View.{view_in}
use Rattle.audit_owners.specs.Walking.{HasWalked}
use Rattle.audit_owners.specs.declared.owner.Owner.{Owner}
use Rattle.audit_owners.specs.declared.owner.Owner.TheVariants.{Bucket}
use Rattle.audit_owners.proofs.owners.check_buckets.Given as goal

abbrev pub invariant-loop-number : goal.invariant-loop-number
invariant-loop-number l =
    (earlier : List Owner) → HasWalked (view_in l.heap) earlier l.fn.marks →
    HasWalked (view_in l.heap) (earlier ++ map (λ number. Bucket l.addr (WORDS + number)) (range_with_len 0 l.number)) l.marks
