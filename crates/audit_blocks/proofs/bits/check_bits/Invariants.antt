-- The bytes of the start bits before this place are right.
use Rattle.audit_blocks.specs.Bits.{BitsBefore}
use Rattle.audit_blocks.proofs.bits.check_bits.Given as goal

abbrev pub invariant-loop-place : goal.invariant-loop-place
invariant-loop-place l = BitsBefore l.heap l.place
