-- What tickets so far charge is added.
use Rattle.std.proofs.Common.{◌≡◌, ◌+◌, ℕ, sum_by, take}
use Rattle.sdr_base.specs.declared.kind.Space.{Space}
use Rattle.audit_counts.specs.Occupied.{charges_by, left_at}
use Rattle.audit_owners.specs.View.{view_in}
use Rattle.audit_counts.proofs.occupied.with_left.Given as goal

abbrev pub invariant-loop-addr : goal.invariant-loop-addr
invariant-loop-addr l =
    (of : Space → ℕ) → l.fn.charges ≡ charges_by of →
    l.charges ≡ charges_by (λ space. of space + sum_by (left_at (view_in l.heap) space) (take l.addr-index l.tickets))
