-- The blocks before this word keep the rule.
use Rattle.std.proofs.Common.{◌≡◌, ◌≤◌, ◌<◌, ◌-◌, ◌*◌, ◌/◌, ℕ, List, length, true}
use Rattle.sdr_base.specs.declared.line.TheConstants.{WORD}
use Rattle.audit_owners.specs.Marks.{AreMarked}
use Rattle.audit_owners.specs.Rules.{keeps_owner_rule}
use Rattle.audit_owners.specs.View.{view_in}
use Rattle.audit_owners.proofs.rules.check_rule.Given as goal

abbrev pub invariant-loop-number : goal.invariant-loop-number
invariant-loop-number l = record {
  inside : l.from ≤ length l.heap / WORD;
  kept :
      (reached : List ℕ) → AreMarked reached l.marks → (other : ℕ) → other < WORD * l.from →
      keeps_owner_rule (view_in l.heap) reached l.rule other ≡ true;
}

abbrev pub decreases-loop-number : goal.decreases-loop-number
decreases-loop-number l = length l.heap - l.from
