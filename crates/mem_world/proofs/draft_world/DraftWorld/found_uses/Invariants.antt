use Rattle.std.proofs.Common.{◌≡◌, ◌+◌}
use Rattle.std.specs.Prelude.{sum_by}
use Rattle.sdr_model.specs.Zco.{uses_of}
use Rattle.mem_store.specs.Store.{things_in}
use Rattle.mem_world.specs.Uses.{naming_in}
use Rattle.mem_world.proofs.draft_world.DraftWorld.found_uses.Given as goal

abbrev pub invariant-loop-place : goal.invariant-loop-place
invariant-loop-place l = record {
  sum : l.uses + sum_by (naming_in l.source) (things_in l.place-iterator) ≡ uses_of l.self.now l.source;
}
