use Rattle.sdr_station.proofs.ground.HeapGroundBacking.roll_back.Goals as goal
use Rattle.sdr_station.proofs.GroundLemmas.{restored_idle}

pub returns-clause-idle : goal.returns-clause-idle
returns-clause-idle g c =
    restored_idle c.restore.result c.args.self.now c.restore.new.self c.requires.sound c.restore.ensures.going c.restore.ensures.idle c.restore.ensures.sound
