use Rattle.std.proofs.Common.{◌≡◌}
use Rattle.sdr_model.specs.Zco.{source_naming}
use Rattle.mem_store.specs.Store.{things_in}
use Rattle.mem_world.proofs.NamedLemmas.{first_source}
use Rattle.mem_world.proofs.draft_world.DraftWorld.source_on.Given as goal

abbrev pub invariant-loop-addr : goal.invariant-loop-addr
invariant-loop-addr l = record {
  first : first_source l.raw (things_in l.addr-iterator) ≡ source_naming l.self.now l.raw;
}
