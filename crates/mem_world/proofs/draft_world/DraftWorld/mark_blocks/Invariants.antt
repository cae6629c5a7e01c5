use Rattle.std.proofs.Common.{◌≡◌, ◌<◌, ◌++◌, ℕ, Some}
use Rattle.std.specs.FinMap.{get}
use Rattle.sdr_model.specs.Dry.{addr_after, next_addr, next_addrs}
use Rattle.mem_world.specs.Keeps.{SameBegin, StayTouched}
use Rattle.mem_world.proofs.draft_world.DraftWorld.mark_blocks.Given as goal

abbrev pub invariant-loop-k : goal.invariant-loop-k
invariant-loop-k l = record {
  marked : l.self.now ≡ record l.initial.self.now {
    marks = l.initial.self.now.marks ++ next_addrs l.initial.self.now.taken l.k;
  };
  owned : (k : ℕ) → k < l.k → get l.self.owners (addr_after l.initial.self.now.taken k) ≡ Some l.owner;
  others : (other of : ℕ) → other < next_addr l.initial.self.now.taken → get l.initial.self.owners other ≡ Some of
      → get l.self.owners other ≡ Some of;
  touched : StayTouched l.initial.self l.self;
  keeps : SameBegin l.initial.self l.self;
  first : l.first ≡ next_addr l.initial.self.now.taken;
}
