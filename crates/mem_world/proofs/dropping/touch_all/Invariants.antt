use Rattle.std.proofs.Common.{◌≡◌, take}
use Rattle.std.specs.List.{All}
use Rattle.std.specs.Prelude.{Contains}
use Rattle.mem_world.specs.Keeps.{SameBegin, StayTouched}
use Rattle.mem_world.proofs.dropping.touch_all.Given as goal

abbrev pub invariant-loop-addr : goal.invariant-loop-addr
invariant-loop-addr l = record {
  now : l.world.now ≡ l.initial.world.now;
  owners : l.world.owners ≡ l.initial.world.owners;
  touched : All (Contains l.world.touched) (take l.addr-index l.addrs);
  others : StayTouched l.initial.world l.world;
  keeps : SameBegin l.initial.world l.world;
}
