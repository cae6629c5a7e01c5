-- No block so far breaks the rule.
use Rattle.std.proofs.Common.{◌≡◌, ◌≤◌, ◌-◌, ◌/◌, length}
use Rattle.std.specs.Prelude.{None}
use Rattle.sdr_base.specs.declared.line.TheConstants.{WORD}
use Rattle.audit_counts.specs.Rules.{keeps_count_rule}
use Rattle.audit_owners.specs.Places.{first_failing}
use Rattle.audit_owners.specs.View.{view_in}
use Rattle.audit_counts.proofs.rules.first_broken.Given as goal

abbrev pub invariant-loop-number : goal.invariant-loop-number
invariant-loop-number l = record {
  inside : l.from ≤ length l.heap / WORD;
  kept : first_failing (keeps_count_rule (view_in l.heap) (length l.heap / WORD) l.rule) l.from ≡ None;
}

abbrev pub decreases-loop-number : goal.decreases-loop-number
decreases-loop-number l = length l.heap - l.from
