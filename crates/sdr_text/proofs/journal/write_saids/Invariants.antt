use Rattle.std.proofs.Common.{◌≤◌, length}
use Rattle.std.specs.Prelude.{flat_map}
use Rattle.sdr_base.proofs.WrittenLemmas.{GoesOut}
use Rattle.sdr_text.specs.JournalText.{said_line}
use Rattle.sdr_text.proofs.journal.write_saids.Given as goal

abbrev pub invariant-loop-one : goal.invariant-loop-one
invariant-loop-one g l = record {
  goes : GoesOut (g.K.Sink.taken l.fn.out) (g.K.Sink.taken l.out) (flat_map said_line l.fn.said) (flat_map said_line l.rest);
  later : g.K.Sink.faults l.fn.out ≤ g.K.Sink.faults l.out;
}

abbrev pub decreases-loop-one : goal.decreases-loop-one
decreases-loop-one g l = length l.rest
