-- So many bytes are zeros, and only the lines that hold them were touched.
use Rattle.std.proofs.Common.{◌≡◌, ◌≤◌, ◌<◌, ◌+◌, ◌-◌, ◌/◌, length}
use Rattle.std.specs.Prelude.{replicate, false}
use Rattle.sdr_base.specs.Parts.{overwrite}
use Rattle.sdr_heap.proofs.blocks.clear.Given as goal

abbrev pub invariant-loop-done : goal.invariant-loop-done
invariant-loop-done g l = record {
  below : l.done ≤ l.fn.count;
  cleared : g.C.Cells.bytes l.c ≡ overwrite l.fn.place (replicate l.done 0) (g.C.Cells.bytes l.fn.c);
  size : length (g.C.Cells.bytes l.c) ≡ length (g.C.Cells.bytes l.fn.c);
  room : (g.C.Cells.transaction l.c).room ≡ (g.C.Cells.transaction l.fn.c).room;
  kept : length (g.C.Cells.transaction l.fn.c).touched ≤ length (g.C.Cells.transaction l.c).touched;
  most : length (g.C.Cells.transaction l.c).touched
      ≤ length (g.C.Cells.transaction l.fn.c).touched + 2 + l.fn.count / 64;
  left : l.done < l.fn.count → length (g.C.Cells.transaction l.c).touched + (l.fn.place + l.fn.count + 63) / 64
      ≤ length (g.C.Cells.transaction l.fn.c).touched + 2 + l.fn.count / 64 + (l.fn.place + l.done) / 64;
  sound : (g.C.Cells.transaction l.c).failed ≡ false;
  later : (g.C.Cells.transaction l.fn.c).faults ≤ (g.C.Cells.transaction l.c).faults;
  quiet : g.C.Cells.quiet l.fn.c l.c;
}

abbrev pub decreases-loop-done : goal.decreases-loop-done
decreases-loop-done g l = l.count - l.done
