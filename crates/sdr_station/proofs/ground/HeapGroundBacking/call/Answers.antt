use Rattle.std.proofs.Common.{◌∙◌, arith}
use Rattle.sdr_station.proofs.StationLemmas.{undoomed_noted}
use Rattle.sdr_station.proofs.ground.HeapGroundBacking.call.Goals as goal

-- this ground doesn't tell how often its media were asked
pub returns-clause-needs : goal.returns-clause-needs
returns-clause-needs g c = record { each = λ v stands. omega arith }

pub returns-in_default-clause-needs : goal.returns-in_default-clause-needs
returns-in_default-clause-needs g c = record { each = λ v stands. omega arith }

pub returns-clause-going : goal.returns-clause-going
returns-clause-going g c = λ n none. record {
  sound = c.in-Ok.ensures.sound;
  going = c.in-Ok.ensures.stopped ∙ undoomed_noted c.args.call.now c.in-Ok.reply n none;
}
