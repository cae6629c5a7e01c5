-- What isn't covered by the extents so far is left.
use Rattle.std.proofs.Common.{◌≡◌, ◌+◌, ◌-◌, sum_by, take}
use Rattle.audit_counts.specs.Rules.{extent_length}
use Rattle.audit_owners.specs.View.{view_in}
use Rattle.audit_counts.proofs.rules.cover.Given as goal

abbrev pub invariant-loop-addr : goal.invariant-loop-addr
invariant-loop-addr l =
    l.before + l.left ≡ l.offset + l.count - sum_by (extent_length (view_in l.heap)) (take l.addr-index l.extents)
