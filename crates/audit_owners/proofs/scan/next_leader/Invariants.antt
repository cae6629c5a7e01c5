-- No leader of a block of these kinds begins with the words that were passed.
use Rattle.std.proofs.Common.{◌-◌, ◌≤◌, ◌/◌, length}
use Rattle.audit_owners.specs.Scan.{LeadsNone}
use Rattle.audit_owners.proofs.scan.next_leader.Given as goal

abbrev pub invariant-loop-word : goal.invariant-loop-word
invariant-loop-word l = record {
  onward : l.from ≤ l.word;
  most : l.from ≤ length l.heap / 8 → l.word ≤ length l.heap / 8;
  clear : LeadsNone l.kinds l.heap l.from l.word;
}

abbrev pub decreases-loop-word : goal.decreases-loop-word
decreases-loop-word l = l.words - l.word
