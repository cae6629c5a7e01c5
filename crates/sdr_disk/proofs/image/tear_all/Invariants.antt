-- What is left to tear gives what all gives.
use Rattle.std.proofs.Common.{◌≡◌, length}
use Rattle.sdr_disk.specs.Image.{AllFit, tear_changes}
use Rattle.sdr_disk.specs.Kept.{changes_of}
use Rattle.sdr_disk.proofs.image.tear_all.Given as goal

abbrev pub invariant-loop-first : goal.invariant-loop-first
invariant-loop-first l = record {
  fit : AllFit (length l.image) l.rest;
  same : tear_changes l.torn (changes_of l.rest) l.image ≡ tear_changes l.torn (changes_of l.fn.kept) l.fn.image;
}

abbrev pub decreases-loop-first : goal.decreases-loop-first
decreases-loop-first l = length l.rest
