use Rattle.std.proofs.Common.{◌≤◌, length}
use Rattle.std.specs.FinMap as map
use Rattle.std.specs.Prelude.{All}
use Rattle.std.specs.Io.KnownBytes.{append_known}
use Rattle.sdr_base.proofs.WrittenLemmas.{GoesOut}
use Rattle.sdr_buffer.specs.Waiting.{Grows}
use Rattle.sdr_text_world.specs.ThingText.{HasSmallWire, things_text}
use Rattle.sdr_text_world.proofs.world.put_things.Given as goal

abbrev pub invariant-loop-addr : goal.invariant-loop-addr
invariant-loop-addr g l = record {
  goes : GoesOut (append_known (g.K.Sink.taken l.fn.out) l.fn.waiting.bytes) (append_known (g.K.Sink.taken l.out) l.waiting.bytes) (things_text l.fn.world (map.entries l.fn.world.things))
      (things_text l.fn.world l.rest);
  grows : Grows (g.K.Sink.taken l.fn.out) (g.K.Sink.taken l.out);
  later : g.K.Sink.faults l.fn.out ≤ g.K.Sink.faults l.out;
  small : All (λ e. HasSmallWire e.1) l.rest;
}

abbrev pub decreases-loop-addr : goal.decreases-loop-addr
decreases-loop-addr g l = length l.rest
