-- Up to a place no byte is missing; from there on it is as from the begin.
use Rattle.std.proofs.Common.{◌≡◌, drop}
use Rattle.zco_pieces.specs.Places.{AreInOrder, first_missing}
use Rattle.zco_pieces.proofs.finishing.first_gap.Given as goal

abbrev pub invariant-loop-part : goal.invariant-loop-part
invariant-loop-part l = record {
  first : first_missing 0 l.parts ≡ first_missing l.end (drop l.part-index l.parts);
  order : AreInOrder l.end l.total (drop l.part-index l.parts);
}
