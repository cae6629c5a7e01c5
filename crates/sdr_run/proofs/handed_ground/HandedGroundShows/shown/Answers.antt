use Rattle.std.proofs.Common.{subst, sym}
use Rattle.sdr_station.specs.Grounded.{Grounded, StandsInMemory}
use Rattle.sdr_run.proofs.handed_ground.HandedGroundShows.shown.Goals as goal

pub returns : goal.returns
returns g c v at =
    c.shown.ensures.told v
    (subst (λ (o : Grounded g.row.D.Denot g.row.M.Denot). StandsInMemory o v) (sym c.self.view_is) at.memory)
