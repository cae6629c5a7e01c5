use Rattle.std.proofs.Common.{◌≡◌, map, drop}
use Rattle.sdr_model.specs.Things.{block_among, block_for_element}
use Rattle.sdr_model.proofs.things.SdrList.block.Given as goal

abbrev pub invariant-loop-element : goal.invariant-loop-element
invariant-loop-element l = block_among l.addr (map block_for_element l.self.elements) ≡ block_among l.addr (map block_for_element (drop l.element-index l.self.elements))
