use Rattle.std.proofs.Common.{subst, sym}
use Rattle.std.proofs.lemmas.Result.{IfOk-weaker}
use Rattle.sdr_machine.specs.Room.{HoldsAny}
use Rattle.sdr_machine.specs.Standing.{GroundState}
use Rattle.sdr_machine.specs.declared.tells.Room.{Room}
use Rattle.sdr_run.specs.Settled.{StandsWhere}
use Rattle.sdr_station.specs.Grounded.{Grounded, StandsInMemory}
use Rattle.sdr_run.proofs.handed_ground.HandedGroundTells.room_for.Goals as goal

pub returns : goal.returns
returns g c =
    let D = g.row.D.Denot in
    let M = g.row.M.Denot in
    let d = g.D.Disk in
    IfOk-weaker c.room_for.result
    (λ (room : Room). (v : GroundState) → StandsInMemory c.self.inside.ground v → HoldsAny room v.now c.args.call.now)
    (λ (room : Room). (v : GroundState) → StandsWhere g.J.HandedIn.condition d.bytes d.tells_crashes d.moment d.may_hold_after c.args.self.now v
    → HoldsAny room v.now c.args.call.now)
    (λ room holds v at. holds v (subst (λ (o : Grounded D M). StandsInMemory o v) (sym c.self.view_is) at.memory))
    c.room_for.ensures.memory
