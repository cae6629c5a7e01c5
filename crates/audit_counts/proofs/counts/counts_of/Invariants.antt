-- The sources that the extents of the objects so far name are counted.
use Rattle.std.proofs.Common.{◌≡◌, ◌≤◌, ◌-◌, ◌/◌, length, sum_by}
use Rattle.sdr_base.specs.declared.line.TheConstants.{WORD}
use Rattle.audit_counts.specs.Counts.{uses_at}
use Rattle.audit_owners.specs.Places.{places}
use Rattle.audit_counts.specs.Numbers.{AreTold}
use Rattle.audit_owners.specs.View.{view_in}
use Rattle.audit_counts.proofs.counts.counts_of.Given as goal

abbrev pub invariant-loop-number : goal.invariant-loop-number
invariant-loop-number l = record {
  inside : l.from ≤ length l.heap / WORD;
  long : length l.counts.items ≡ length l.heap / WORD;
  told :
      AreTold (λ from. sum_by (uses_at (view_in l.heap) (length l.heap / WORD) l.account from) (places l.from)) l.counts.items;
}

abbrev pub decreases-loop-number : goal.decreases-loop-number
decreases-loop-number l = length l.heap - l.from
