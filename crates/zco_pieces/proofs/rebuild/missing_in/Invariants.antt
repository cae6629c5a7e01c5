-- So many are missing of those that were passed.
use Rattle.std.proofs.Common.{◌≡◌, ◌+◌, take}
use Rattle.zco_pieces.specs.Places.{filled_length}
use Rattle.zco_pieces.proofs.rebuild.missing_in.Given as goal

abbrev pub invariant-loop-part : goal.invariant-loop-part
invariant-loop-part l = l.missing + filled_length (take l.part-index l.parts) ≡ l.total
