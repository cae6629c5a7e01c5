-- No block in use of these kinds has its address at the words that were passed.
use Rattle.std.proofs.Common.{◌-◌, ◌≤◌}
use Rattle.audit_owners.specs.Scan.{HaveNoneOf}
use Rattle.audit_owners.proofs.scan.next_of.Given as goal

abbrev pub invariant-loop-word : goal.invariant-loop-word
invariant-loop-word l = record { onward : l.from ≤ l.word; passed : HaveNoneOf l.kinds l.heap l.from l.word }

abbrev pub decreases-loop-word : goal.decreases-loop-word
decreases-loop-word l = l.words - l.word
