use Rattle.sdr_station.proofs.LookLemmas.{seen_idle}
use Rattle.sdr_station.proofs.ground.HeapGroundBacking.look.Goals as goal

pub returns-clause-idle : goal.returns-clause-idle
returns-clause-idle g c = seen_idle c.look.result c.args.self.now c.look.new.self c.look.ensures.same c.look.ensures.sound c.requires.idle
