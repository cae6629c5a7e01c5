use Rattle.std.proofs.Common.{◌≤◌, length}
use Rattle.std.specs.Io.KnownBytes.{append_known}
use Rattle.sdr_base.proofs.WrittenLemmas.{GoesOut}
use Rattle.sdr_buffer.specs.Waiting.{Grows}
use Rattle.sdr_text.specs.JournalText.{journal_text}
use Rattle.sdr_text_journal.proofs.journal.put_journal.Given as goal

abbrev pub invariant-loop-rest : goal.invariant-loop-rest
invariant-loop-rest g l = record {
  goes : GoesOut (append_known (g.K.Sink.taken l.fn.out) l.fn.waiting.bytes) (append_known (g.K.Sink.taken l.out) l.waiting.bytes)
      (journal_text l.fn.journal) (journal_text l.rest);
  grows : Grows (g.K.Sink.taken l.fn.out) (g.K.Sink.taken l.out);
  later : g.K.Sink.faults l.fn.out ≤ g.K.Sink.faults l.out;
}

abbrev pub decreases-loop-rest : goal.decreases-loop-rest
decreases-loop-rest g l = length l.rest
