use Rattle.std.proofs.Common.{◌/◌, ◌∙◌, ℕ, List, length, sym}
use Rattle.std.specs.Prelude.{Option}
use Rattle.audit_counts.proofs.RulesLemmas.{none_more, some_here}
use Rattle.audit_counts.specs.Rules.{count_rules, keeps_count_rule}
use Rattle.audit_counts.specs.declared.rules.CountRule.{CountRule}
use Rattle.audit_owners.specs.Places.{first_failing}
use Rattle.audit_owners.specs.View.{view_in}
use Rattle.audit_counts.proofs.rules.wrong_rule.Goals as goal

-- the first block of a region that doesn't keep a rule
abbrev broken : List ℕ → CountRule → Option ℕ
broken bytes rule = first_failing (keeps_count_rule (view_in bytes) (length bytes / 8) rule) (length bytes / 8)

pub returns-in-Some : goal.returns-in-Some
returns-in-Some c =
    sym (some_here (broken c.args.heap.now) count_rules c.loop-rule.rule-index _ c.in-Some.addr c.loop-rule-test.true c.loop-rule.invariant
    (sym c.in_ok-addr.ensures ∙ c.in-Some.is))

pub loop-rule-preserved : goal.loop-rule-preserved
loop-rule-preserved c =
    none_more (broken c.args.heap.now) count_rules c.loop-rule.rule-index _ c.loop-rule-test.true c.loop-rule.invariant
    (sym c.in_ok-addr.ensures ∙ c.in_default.is)
