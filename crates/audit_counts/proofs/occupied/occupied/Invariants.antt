-- What the objects so far charge is added.
use Rattle.std.proofs.Common.{◌≡◌, ◌≤◌, ◌-◌, ◌/◌, length, sum_by}
use Rattle.sdr_base.specs.declared.line.TheConstants.{WORD}
use Rattle.audit_owners.specs.Places.{places}
use Rattle.audit_counts.specs.Occupied.{charge_at, charges_by}
use Rattle.audit_owners.specs.View.{view_in}
use Rattle.audit_counts.proofs.occupied.occupied.Given as goal

abbrev pub invariant-loop-number : goal.invariant-loop-number
invariant-loop-number l = record {
  inside : l.from ≤ length l.heap / WORD;
  charged :
      l.charges
      ≡ charges_by (λ space. sum_by (charge_at (view_in l.heap) (length l.heap / WORD) l.account space) (places l.from));
}

abbrev pub decreases-loop-number : goal.decreases-loop-number
decreases-loop-number l = length l.heap - l.from
