-- What is left to undo gives what all gives.
use Rattle.std.proofs.Common.{◌≡◌, length}
use Rattle.sdr_disk.specs.Image.{AllFit}
use Rattle.sdr_disk.specs.Kept.{undone_all}
use Rattle.sdr_disk.proofs.image.undo_all.Given as goal

abbrev pub invariant-loop-last : goal.invariant-loop-last
invariant-loop-last l = record {
  fit : AllFit (length l.image) l.rest;
  same : undone_all l.rest l.image ≡ undone_all l.fn.kept l.fn.image;
}

abbrev pub decreases-loop-last : goal.decreases-loop-last
decreases-loop-last l = length l.rest
