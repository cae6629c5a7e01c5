use Rattle.sdr_model.specs.Pieces.{extent_pieces}
use Rattle.mem_zco_calls.proofs.GatherLemmas.{Gathers-all}
use Rattle.mem_zco_calls.proofs.wire.extent_pieces.Goals as goal

pub returns : goal.returns
returns c =
    Gathers-all (extent_pieces c.args.world.now.now c.args.extents.now) c.args.skip c.args.count c.new-gathering.result c.add_extents.new.self
    c.new-gathering.ensures.pieces c.new-gathering.ensures.skip c.new-gathering.ensures.count
    c.in_ok-add_extents.ensures
