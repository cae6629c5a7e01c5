use Rattle.std.proofs.Common.{◌≤◌, length}
use Rattle.std.specs.Io.KnownBytes.{append_known}
use Rattle.sdr_base.proofs.WrittenLemmas.{GoesOut}
use Rattle.sdr_buffer.specs.Waiting.{Grows}
use Rattle.sdr_text_world.specs.AccountText.{tickets_text}
use Rattle.sdr_text_world.proofs.account.put_tickets.Given as goal

abbrev pub invariant-loop-ticket : goal.invariant-loop-ticket
invariant-loop-ticket g l = record {
  goes : GoesOut (append_known (g.K.Sink.taken l.fn.out) l.fn.waiting.bytes) (append_known (g.K.Sink.taken l.out) l.waiting.bytes) (tickets_text l.fn.acct l.fn.tickets) (tickets_text l.acct l.rest);
  grows : Grows (g.K.Sink.taken l.fn.out) (g.K.Sink.taken l.out);
  later : g.K.Sink.faults l.fn.out ≤ g.K.Sink.faults l.out;
}

abbrev pub decreases-loop-ticket : goal.decreases-loop-ticket
decreases-loop-ticket g l = length l.rest
