-- The entries so far belong in the bucket.
use Rattle.std.proofs.Common.{◌≡◌, take, true}
use Rattle.std.specs.List.{list_all}
use Rattle.audit_owners.specs.Entries.{fits_bucket}
use Rattle.audit_owners.specs.View.{view_in}
use Rattle.audit_owners.proofs.entries.fit_bucket.Given as goal

abbrev pub invariant-loop-entry : goal.invariant-loop-entry
invariant-loop-entry l =
    list_all (fits_bucket (view_in l.heap) l.addr l.number) (take l.entry-index l.entries) ≡ true
