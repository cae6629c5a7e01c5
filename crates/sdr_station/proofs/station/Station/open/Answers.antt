use Rattle.std.proofs.Common.{ap}
use Rattle.sdr_machine.specs.declared.nesting.Nesting.{Nesting}
use Rattle.sdr_station.proofs.station.Station.open.Goals as goal

pub invariant_of-result : goal.invariant_of-result
invariant_of-result g c =
    let o = c.in-Ok.ensures.opened in
    record { going = λ _ _. o.going; idle = λ _ _. ap (λ (n : Nesting). n.doom) c.none.ensures; outside = λ _ _. o.idle; sound = λ _. o.sound }
