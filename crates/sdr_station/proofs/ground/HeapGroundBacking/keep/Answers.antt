use Rattle.sdr_station.proofs.ground.HeapGroundBacking.keep.Goals as goal

pub returns-in-Ok-clause-idle : goal.returns-in-Ok-clause-idle
returns-in-Ok-clause-idle g c = record { going = record { sound = c.in-Ok.ensures.sound; going = c.in-Ok.ensures.going }; idle = c.in-Ok.ensures.idle }
