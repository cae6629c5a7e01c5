use Rattle.std.proofs.Common.{◌++◌, ◌∙◌, drop}
use Rattle.sdr_model.specs.Pieces.{extent_pieces}
use Rattle.mem_zco_calls.proofs.GatherLemmas.{cut_enough}
use Rattle.mem_zco_calls.proofs.wire.Gathering.add_extents.Goals as goal

pub returns-then-self-eq0 : goal.returns-then-self-eq0
returns-then-self-eq0 c = λ others.
    let rest = extent_pieces c.args.world.now.now (drop c.loop-extent.extent-index c.args.extents.now) in
    c.loop-extent.invariant others
    ∙ cut_enough c.loop-extent.self.pieces (rest ++ others) others c.loop-extent.self.skip c.loop-extent.self.count c.if-self-eq0.true
