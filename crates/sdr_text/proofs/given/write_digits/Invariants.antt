use Rattle.std.proofs.Common.{◌≤◌, length}
use Rattle.hex.specs.Hex.{encode_lower}
use Rattle.sdr_base.proofs.WrittenLemmas.{GoesOut}
use Rattle.sdr_text.proofs.given.write_digits.Given as goal

abbrev pub invariant-loop-rest : goal.invariant-loop-rest
invariant-loop-rest g l = record {
  goes : GoesOut (g.K.Sink.taken l.fn.out) (g.K.Sink.taken l.out) (encode_lower l.fn.bytes) (encode_lower l.rest);
  later : g.K.Sink.faults l.fn.out ≤ g.K.Sink.faults l.out;
}

abbrev pub decreases-loop-rest : goal.decreases-loop-rest
decreases-loop-rest g l = length l.rest
