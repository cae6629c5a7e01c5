use Rattle.std.proofs.Common.{◌≤◌, length}
use Rattle.std.specs.Prelude.{flat_map}
use Rattle.sdr_base.proofs.WrittenLemmas.{GoesOut}
use Rattle.sdr_text.specs.JournalText.{entry_text}
use Rattle.sdr_text.proofs.journal.write_journal.Given as goal

abbrev pub invariant-loop-entry : goal.invariant-loop-entry
invariant-loop-entry g l = record {
  goes : GoesOut (g.K.Sink.taken l.fn.out) (g.K.Sink.taken l.out) (flat_map entry_text l.fn.journal) (flat_map entry_text l.rest);
  later : g.K.Sink.faults l.fn.out ≤ g.K.Sink.faults l.out;
}

abbrev pub decreases-loop-entry : goal.decreases-loop-entry
decreases-loop-entry g l = length l.rest
