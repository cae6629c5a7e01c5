-- The sources that the extents so far name are counted.
use Rattle.std.proofs.Common.{◌+◌, ℕ, count_by, take}
use Rattle.audit_counts.specs.Counts.{extent_names}
use Rattle.audit_counts.specs.Numbers.{AreTold}
use Rattle.audit_owners.specs.View.{view_in}
use Rattle.audit_counts.proofs.counts.count_extents.Given as goal

abbrev pub invariant-loop-addr : goal.invariant-loop-addr
invariant-loop-addr l =
    (number : ℕ → ℕ) → AreTold number l.fn.counts →
    AreTold (λ from. number from + count_by (extent_names (view_in l.heap) from) (take l.addr-index l.extents)) l.counts
