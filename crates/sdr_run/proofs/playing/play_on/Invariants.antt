use Rattle.std.proofs.Common.{◌≤◌, ◌+◌, length}
use Rattle.sdr_machine.specs.Core.{Core}
use Rattle.sdr_buffer.specs.Waiting.{Grows}
use Rattle.sdr_run.specs.Playing.{IsPrinted, output}
use Rattle.sdr_run.specs.Printing.{behind}
use Rattle.sdr_run.specs.Running.{Running}
use Rattle.sdr_run.proofs.playing.play_on.Given as goal

-- whatever core the run had come to, it runs from there
abbrev pub invariant-loop-step : goal.invariant-loop-step
invariant-loop-step g l = record {
  running : (from : Core) → g.R.HasRun.at l.fn.run from
      → Running g.R.HasRun l.fn.run from (g.S.Steps.left l.fn.steps) (g.S.Steps.left l.steps) l.bindings l.run
      (IsPrinted l.printer.going (behind (output g.K.Sink.taken g.K.Sink.faults l.fn.out) l.fn.printer) (behind (output g.K.Sink.taken g.K.Sink.faults l.out) l.printer));
  lasts : g.R.HasRun.lasts l.run;
  drawn : (g.R.HasRun.roll_of l.run).drawn + length (g.S.Steps.left l.steps) ≤ (g.R.HasRun.roll_of l.fn.run).drawn + length (g.S.Steps.left l.fn.steps);
  grows : Grows (g.K.Sink.taken l.fn.out) (g.K.Sink.taken l.out);
  later : g.K.Sink.faults l.fn.out ≤ g.K.Sink.faults l.out;
}

abbrev pub decreases-loop-step : goal.decreases-loop-step
decreases-loop-step g l = length (g.S.Steps.left l.steps)
