use Rattle.std.proofs.Common.{◌≡◌, map, take}
use Rattle.audit_owners.specs.View.{view_in}
use Rattle.audit_world.specs.Told.{name_told}
use Rattle.audit_world.proofs.names.names_at.Given as goal

abbrev pub invariant-loop-addr : goal.invariant-loop-addr
invariant-loop-addr l = l.names ≡ map (name_told (view_in l.heap)) (take l.addr-index l.addrs)
