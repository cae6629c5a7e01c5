use Rattle.std.proofs.Common.{◌≡◌, map, drop}
use Rattle.sdr_model.specs.Things.{block_among, entry_block}
use Rattle.sdr_model.proofs.hash.SdrHash.block.Given as goal

abbrev pub invariant-loop-entry : goal.invariant-loop-entry
invariant-loop-entry l = block_among l.addr (map entry_block l.self.entries) ≡ block_among l.addr (map entry_block (drop l.entry-index l.self.entries))
