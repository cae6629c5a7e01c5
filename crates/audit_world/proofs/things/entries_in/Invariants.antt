use Rattle.std.proofs.Common.{◌≡◌, ◌/◌, length}
use Rattle.audit_owners.specs.View.{view_in}
use Rattle.audit_world.specs.Told.{entries_up_to}
use Rattle.audit_world.proofs.things.entries_in.Given as goal

abbrev pub invariant-loop-bucket : goal.invariant-loop-bucket
invariant-loop-bucket l = l.entries ≡ entries_up_to (view_in l.heap) (length l.heap / 8) l.addr l.bucket
