-- What was opened of the parts that were passed, and what is still to be opened.
use Rattle.std.proofs.Common.{◌≡◌, ◌++◌, drop}
use Rattle.zco_pieces.specs.Places.{AreInOrder, opened}
use Rattle.zco_pieces.proofs.adding.open.Given as goal

abbrev pub invariant-loop-part : goal.invariant-loop-part
invariant-loop-part l = record {
  whole : l.opened.items ++ opened l.from l.total (drop l.part-index l.parts) l.offset l.length ≡ opened 0 l.total l.parts l.offset l.length;
  order : AreInOrder l.from l.total (drop l.part-index l.parts);
}
