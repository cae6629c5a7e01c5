use Rattle.std.proofs.Common.{◌≡◌, drop}
use Rattle.std.specs.List.{All}
use Rattle.std.specs.Prelude.{Contains}
use Rattle.mem_world.specs.Keeps.{SameBegin}
use Rattle.sdr_model.specs.Gone.{without_things}
use Rattle.mem_world.proofs.dropping.drop_all.Given as goal

abbrev pub invariant-loop-addr : goal.invariant-loop-addr
invariant-loop-addr l = record {
  touched : All (Contains l.world.touched) (drop l.addr-index l.addrs);
  dropped : without_things l.world.now (drop l.addr-index l.addrs) ≡ without_things l.initial.world.now l.addrs;
  keeps : SameBegin l.initial.world l.world;
}
