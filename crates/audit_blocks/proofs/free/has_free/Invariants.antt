-- What was found of the words so far.
use Rattle.std.proofs.Common.{◌≡◌, take}
use Rattle.std.specs.List.{list_any}
use Rattle.audit_blocks.specs.Spots.{is_free_spot}
use Rattle.audit_blocks.proofs.free.has_free.Given as goal

abbrev pub invariant-loop-spot : goal.invariant-loop-spot
invariant-loop-spot l = l.found ≡ list_any is_free_spot (take l.spot-index l.spots)
