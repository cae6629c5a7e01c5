-- No source so far tells a wrong count.
use Rattle.std.proofs.Common.{◌≡◌, ◌≤◌, ◌-◌, ◌/◌, length}
use Rattle.std.specs.Prelude.{None}
use Rattle.sdr_base.specs.declared.line.TheConstants.{WORD}
use Rattle.audit_counts.specs.Counts.{keeps_counts}
use Rattle.audit_owners.specs.Places.{first_failing}
use Rattle.audit_owners.specs.View.{view_in}
use Rattle.audit_counts.proofs.counts.wrong_source.Given as goal

abbrev pub invariant-loop-number : goal.invariant-loop-number
invariant-loop-number l = record {
  inside : l.from ≤ length l.heap / WORD;
  kept : first_failing (keeps_counts (view_in l.heap) (length l.heap / WORD)) l.from ≡ None;
}

abbrev pub decreases-loop-number : goal.decreases-loop-number
decreases-loop-number l = length l.heap - l.from
