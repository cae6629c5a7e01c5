use Rattle.std.proofs.Common.{◌≤◌, length}
use Rattle.std.specs.Prelude.{flat_map}
use Rattle.sdr_base.proofs.WrittenLemmas.{GoesOut}
use Rattle.sdr_text_world.specs.ThingText.{element_text}
use Rattle.sdr_text_world.proofs.thing.write_elements.Given as goal

abbrev pub invariant-loop-element : goal.invariant-loop-element
invariant-loop-element g l = record {
  goes : GoesOut (g.K.Sink.taken l.fn.out) (g.K.Sink.taken l.out) (flat_map element_text l.fn.elements) (flat_map element_text l.rest);
  later : g.K.Sink.faults l.fn.out ≤ g.K.Sink.faults l.out;
}

abbrev pub decreases-loop-element : goal.decreases-loop-element
decreases-loop-element g l = length l.rest
