-- The texts so far are in the set, and what is repeated first is so among the others.
use Rattle.std.proofs.Common.{◌≡◌, drop, map, take}
use Rattle.audit_owners.specs.Texts.{first_repeated, repeated_among, text_at}
use Rattle.audit_owners.specs.View.{view_in}
use Rattle.audit_owners.proofs.texts.first_repeated.Given as goal

abbrev pub invariant-loop-addr : goal.invariant-loop-addr
invariant-loop-addr l = record {
  seen : map (λ key. key.items) l.seen.keys ≡ map (text_at (view_in l.heap) l.text) (take l.addr-index l.addrs);
  rest :
      repeated_among (view_in l.heap) l.text (take l.addr-index l.addrs) (drop l.addr-index l.addrs)
      ≡ first_repeated (view_in l.heap) l.text l.addrs;
}
