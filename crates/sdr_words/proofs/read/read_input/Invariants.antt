use Rattle.std.proofs.Common.{◌≤◌, ◌-◌, ◌+◌, length}
use Rattle.std.specs.Io.KnownBytes.{Consumes}
use Rattle.sdr_words.proofs.read.read_input.Given as goal

abbrev pub invariant-loop-piece : goal.invariant-loop-piece
invariant-loop-piece g l = record {
  taken : Consumes (g.S.Source.left l.fn.source) (g.S.Source.left l.source) l.input.items;
  later : g.S.Source.faults l.fn.source ≤ g.S.Source.faults l.source;
  each_gave : g.S.Source.reads l.source ≤ g.S.Source.reads l.fn.source + length l.input.items;
  few : g.S.Source.reads l.source ≤ g.S.Source.reads l.fn.source + 1048577;
  bound : length l.input.items ≤ 1048576 + 4096;
}

abbrev pub decreases-loop-piece : goal.decreases-loop-piece
decreases-loop-piece g l = 1048577 - length l.input.items
