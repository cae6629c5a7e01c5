use Rattle.std.proofs.Common.{◌≡◌, ◌+◌, length}
use Rattle.std.specs.Prelude.{sum_by}
use Rattle.sdr_model.specs.Charges.{occupancy, thing_charge}
use Rattle.sdr_text_world.proofs.occupied.occupancy.Given as goal

abbrev pub invariant-loop-addr : goal.invariant-loop-addr
invariant-loop-addr l = record {
  sum : l.bytes + sum_by (λ e. thing_charge l.fn.world l.acct l.space e.0 e.1) l.rest ≡ occupancy l.fn.world l.acct l.space;
}

abbrev pub decreases-loop-addr : goal.decreases-loop-addr
decreases-loop-addr l = length l.rest
