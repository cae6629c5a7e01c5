use Rattle.std.proofs.Common.{◌≡◌, ◌<◌, ℕ}
use Rattle.std.specs.Prelude.{Contains}
use Rattle.sdr_model.specs.Dry.{addr_after, next_addr}
use Rattle.mem_world.specs.Keeps.{SameBegin, StayTouched}
use Rattle.mem_world.proofs.draft_world.DraftWorld.touch_next.Given as goal

abbrev pub invariant-loop-k : goal.invariant-loop-k
invariant-loop-k l = record {
  now : l.self.now ≡ l.initial.self.now;
  owners : l.self.owners ≡ l.initial.self.owners;
  touched : (k : ℕ) → k < l.k → Contains l.self.touched (addr_after l.initial.self.now.taken k);
  others : StayTouched l.initial.self l.self;
  keeps : SameBegin l.initial.self l.self;
  first : l.first ≡ next_addr l.initial.self.now.taken;
}
