use Rattle.std.proofs.Common.{◌≤◌, length}
use Rattle.std.specs.Io.KnownBytes.{append_known}
use Rattle.sdr_base.proofs.WrittenLemmas.{GoesOut}
use Rattle.sdr_buffer.specs.Waiting.{Grows}
use Rattle.sdr_text_world.specs.AccountText.{names_text}
use Rattle.sdr_text_world.proofs.account.put_names.Given as goal

abbrev pub invariant-loop-entry : goal.invariant-loop-entry
invariant-loop-entry g l = record {
  goes : GoesOut (append_known (g.K.Sink.taken l.fn.out) l.fn.waiting.bytes) (append_known (g.K.Sink.taken l.out) l.waiting.bytes) (names_text l.fn.entries) (names_text l.rest);
  grows : Grows (g.K.Sink.taken l.fn.out) (g.K.Sink.taken l.out);
  later : g.K.Sink.faults l.fn.out ≤ g.K.Sink.faults l.out;
}

abbrev pub decreases-loop-entry : goal.decreases-loop-entry
decreases-loop-entry g l = length l.rest
