use Rattle.sdr_base.specs.KeptHeap.{block_in}
use Rattle.sdr_stands.proofs.ShapeLemmas.{shapes, told}
use Rattle.sdr_stands.proofs.blocks.no_block_leaks.Goals as goal

pub returns-clause-shapes : goal.returns-clause-shapes
returns-clause-shapes c = shapes

pub returns-clause-at_rest : goal.returns-clause-at_rest
returns-clause-at_rest c = λ bytes w P addr s v. told (block_in bytes) w addr s.blocks v

pub returns-clause-in_transaction : goal.returns-clause-in_transaction
returns-clause-in_transaction c = λ heap w addr s v. told heap.blocks w addr s.blocks v
