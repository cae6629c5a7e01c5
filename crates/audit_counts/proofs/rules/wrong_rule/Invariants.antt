-- No block breaks a rule so far.
use Rattle.std.proofs.Common.{◌≡◌, ◌/◌, length, take}
use Rattle.std.specs.Prelude.{None}
use Rattle.sdr_base.specs.declared.line.TheConstants.{WORD}
use Rattle.audit_counts.specs.Rules.{count_rules, first_broken}
use Rattle.audit_owners.specs.View.{view_in}
use Rattle.audit_counts.proofs.rules.wrong_rule.Given as goal

abbrev pub invariant-loop-rule : goal.invariant-loop-rule
invariant-loop-rule l = first_broken (view_in l.heap) (length l.heap / WORD) (take l.rule-index count_rules) ≡ None
